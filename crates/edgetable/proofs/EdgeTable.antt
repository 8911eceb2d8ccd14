-- Laws of the pass over the edges.
use mathlib.Core.Path.{◌≡◌, refl, sym, ap, ◌∙◌, subst}
use mathlib.Core.Logic.{◌⊎◌, inl, inr, ⊎_elim}
use mathlib.Core.List.{List, ◌++◌}
use Prim.Native.Nat.{ℕ, zero, suc, ◌+◌, ◌*◌, ◌/◌, ◌%◌, ◌^◌, ◌≤◌, ◌<◌}
use native.Mathlib.Nat.{mul-le-mul_right}
use native.Mathlib.Numerals.{add-one}
use native.Mathlib.Decide.{ℕ_discrete}
use native.Mathlib.Omega.{arith}
use borrow.Author.Tests.{lt-ltb, le-ltb}
use lib.IntN.{ℤ, pos, nat_abs, ◌*ℤ◌}
use lib.ListN.{length, get_or, take, drop, length-set}
use lib.Seq.{get_or-set_same, get_or-set_other, get_or-take, length-take-le}
use Rattle.lists.specs.Tabulate.{tabulate}
use Rattle.lists.proofs.Tabulate.{length-tabulate, get_or-tabulate}
use Rattle.lists.proofs.Parts.{joined}
use Rattle.integers.specs.Within.{Within}
use Rattle.integers.proofs.Within.{within_any}
use Rattle.integers.proofs.AbsoluteValue.{abs-mul}
use Rattle.search.specs.Search.{count}
use Rattle.search.proofs.Count.{count-le}
use Rattle.rounding.specs.Rounding.{round}
use Rattle.curve.specs.Weights.{tension}
use Rattle.curve.proofs.Tension.{tame}
use Rattle.rings.proofs.Tension.{edge_range_le}
use Rattle.rings.specs.Scales.{virtual_scale, edge_scale, coordinate_range, edge_range}
use Rattle.topology.specs.Shape.{quads}
use Rattle.topology.specs.HalfEdge.{from, mate, first_met, edge, edge_count}
use Rattle.topology.proofs.Mates.{mate_is, mate-back, mate_not, edge-lt, edge_below, edge_new, edge_old, count_new, count_old, edges_le}
use Rattle.halfedges.proofs.Tables.{mates_cong}
use Rattle.nets.specs.Net.{axis}
use Rattle.scheme.specs.Step.{refined_coordinate}
use Rattle.schemelaws.specs.Numerators.{edge_z}
use Rattle.schemelaws.specs.Ordinary.{Ordinary}
use Rattle.schemelaws.proofs.Coordinates.{edge_either, refined_old, refined-edge}
use Rattle.schemelaws.proofs.Sizes.{edge_size}
use Rattle.walks.specs.Ready.{Ready}
use Rattle.ringsizes.specs.Classes.{Classes}
use Rattle.ringsizes.proofs.Classes.{classes_same}
use Rattle.coordinates.specs.Points.{Points, Marks, put_point, PointsWritten}
use Rattle.edgeentries.specs.Packed.{put_three, Holds}
use Rattle.edgeentries.specs.Entry.{wide_flag, boundary_flag, entry_of, edge_of, point_place, place_of, put_edge, copied, unit_of}
use Rattle.coordinates.proofs.Points.{take_point, written_next}
use Rattle.edgeentries.proofs.Packed.{holds_kept, length-put_three, put_three_other, put_three_first, put_three_second, put_three_third}
use Rattle.exactedges.specs.Edge.{ClassedCorners, Flagged, plain, wide, boundary, ExactEdge, ExactPoint}
use Rattle.edgerounding.specs.Rounded.{rounded_by, Small}
use Rattle.edgetable.specs.EdgeTable.{old_axis, refined_axis, edge_axis, Round, Turn, Turned, met, passed, Entry, StoredAt, Edges}

-- ---- flags
module _ (l : List ℕ) (h flag : ℕ) where
  pub entry-edge : (e : ℕ) → e < wide_flag → Flagged l h flag → edge_of (e + flag) ≡ e
  entry-edge e b (plain c d f g) = omega arith
  entry-edge e b (wide c o g) = omega arith
  entry-edge e b (boundary c g) = omega arith

  entry_place : (n e : ℕ) → e < wide_flag → Flagged l h flag → place_of n (e + flag) ≡ point_place n e
  unfolding place_of
  entry_place n e b f = ap (point_place n) (entry-edge e b f)

-- ---- an entry serves both half-edges of its edge
flagged_mate : (l : List ℕ) (h flag : ℕ) → mate quads l h < length l → mate quads l (mate quads l h) ≡ h → h < length l → Flagged l (mate quads l h) flag → Flagged l h flag
flagged_mate l h flag m b k (plain a c d e) =
    let r = mate_is quads l h m in
    plain m (subst (Ordinary l) r.end d) (subst (Ordinary l) r.start c) e
flagged_mate l h flag m b k (wide a o e) = let r = mate_is quads l h m in wide m (λ s t. o (subst (Ordinary l) (sym r.start) t) (subst (Ordinary l) (sym r.end) s)) e
flagged_mate l h flag m b k (boundary a e) = let z : ⊥ = omega arith in absurd z

-- ---- classes of corners
pub classed_of : (l marks w : List ℕ) (at initial : ℕ) → Marks l marks → Classes (length marks) at initial l w → ClassedCorners at initial l w
classed_of l marks w at initial m c = record { room = c.room; ordinary = λ h b e. c.ordinary (from l h) (m.room h b) e; irregular = λ h b e. c.irregular (from l h) (m.room h b) e }

module _ (t : ℕ) where
  -- ---- what makes a stored number one over `edge_scale`
  module _ (l : List ℕ) (h flag : ℕ) where
    flag_unit : Flagged l h flag → (flag ≡ wide_flag → ⊥) → unit_of (tension t) flag ≡ virtual_scale (tension t)
    unfolding unit_of
    flag_unit (plain a b c e) n = ap (unit_of (tension t)) e
    flag_unit (wide a o e) n = absurd (n e)
    flag_unit (boundary a e) n = ap (unit_of (tension t)) e

    pub entry_unit : (e : ℕ) → e < wide_flag → Flagged l h flag → unit_of (tension t) (e + flag) ≡ unit_of (tension t) flag
    unfolding unit_of
    entry_unit e b (plain c d f g) = let x = lt-ltb (e + flag) wide_flag (omega arith) in let y = lt-ltb flag wide_flag (omega arith) in simp (x, y)
    entry_unit e b (wide c o g) =
        let x = le-ltb (e + flag) wide_flag (omega arith) in
        let y = le-ltb flag wide_flag (omega arith) in
        let u = lt-ltb (e + flag) boundary_flag (omega arith) in
        let v = lt-ltb flag boundary_flag (omega arith) in
        simp (x, y, u, v)
    entry_unit e b (boundary c g) =
        let x = le-ltb (e + flag) wide_flag (omega arith) in
        let y = le-ltb flag wide_flag (omega arith) in
        let u = le-ltb (e + flag) boundary_flag (omega arith) in
        let v = le-ltb flag boundary_flag (omega arith) in
        simp (x, y, u, v)

  pub small_of : (l : List ℕ) (h flag : ℕ) (E : ℕ → ℤ) (x y z : ℤ) → Flagged l h flag → ExactPoint (tension t) flag E x y z → Small (tension t) flag x y z
  small_of l h flag E x y z f k =
      let a = ap nat_abs k.on₀.value in
      let b = ap nat_abs k.on₁.value in
      let c = ap nat_abs k.on₂.value in
      let d = k.on₀.small in
      let e = k.on₁.small in
      let g = k.on₂.small in
      record { plain = flag_unit l h flag f; on₀ = omega arith; on₁ = omega arith; on₂ = omega arith }

  -- a stored number is no larger than what it stands for
  unit_cases : (l : List ℕ) (h flag : ℕ) → Flagged l h flag → (unit_of (tension t) flag ≡ 1) ⊎ (unit_of (tension t) flag ≡ virtual_scale (tension t))
  unfolding unit_of
  unit_cases l h flag (plain a b c e) = inr (ap (unit_of (tension t)) e)
  unit_cases l h flag (wide a o e) = inl (ap (unit_of (tension t)) e)
  unit_cases l h flag (boundary a e) = inr (ap (unit_of (tension t)) e)

  number_small : (l : List ℕ) (h flag : ℕ) (X x : ℤ) → Flagged l h flag → ExactEdge (tension t) flag X x → nat_abs x ≤ edge_range (tension t)
  number_small l h flag X x f k = ⊎_elim (go 1 (omega arith)) (go (virtual_scale (tension t)) (omega arith)) (unit_cases l h flag f)
    where
      go : (u : ℕ) → 1 ≤ u → unit_of (tension t) flag ≡ u → nat_abs x ≤ edge_range (tension t)
      go u b e =
          let a = abs-mul (pos u) x in
          let c = ap nat_abs (ap (λ (i : ℕ). pos i *ℤ x) (sym e) ∙ k.value) in
          let d = mul-le-mul_right (nat_abs x) b in
          let s = k.small in
          omega arith

  pub exact_small : t ≤ 4 → (l : List ℕ) (h flag : ℕ) (E : ℕ → ℤ) (x y z : ℤ) → Flagged l h flag → ExactPoint (tension t) flag E x y z → (nat_abs x < 2 ^ 55) × (nat_abs y < 2 ^ 55) × (nat_abs z < 2 ^ 55)
  exact_small low l h flag E x y z f k =
      let r = edge_range_le t low in
      let a = number_small l h flag (E 0) x f k.on₀ in
      let b = number_small l h flag (E 1) y f k.on₁ in
      let c = number_small l h flag (E 2) z f k.on₂ in
      (omega arith, omega arith, omega arith)

  -- ---- what stays stored
  stored_kept : (n : ℕ) (w w' : List ℕ) (a entry : ℕ) (X : ℤ) → get_or w' (place_of n entry + 2 * a) 0 ≡ get_or w (place_of n entry + 2 * a) 0 → get_or w' (place_of n entry + 2 * a + 1) 0 ≡ get_or w (place_of n entry + 2 * a + 1) 0
      → StoredAt (tension t) n w a entry X → StoredAt (tension t) n w' a entry X
  stored_kept n w w' a entry X i j s = record { number = s.number; holds = holds_kept w w' (place_of n entry + 2 * a) s.number i j s.holds; value = s.value }

  module _ (l marks : List ℕ) (p₀ : List ℤ) (w₀ : List ℕ) (at initial : ℕ) (ok : Round t l marks p₀ w₀ at initial) where
    -- ---- what the tables have
    old_length : length (take (3 * length marks) p₀) ≡ 3 * length marks
    old_length = let r = ok.room in length-take-le (3 * length marks) p₀ (omega arith)

    old_small : (a i : ℕ) → nat_abs (old_axis marks p₀ a i) ≤ coordinate_range
    unfolding old_axis axis
    old_small a i = within_any coordinate_range _ ok.bounded (3 * i + a)

    pub edge_small : (a g : ℕ) → g < length l → nat_abs (edge_axis (tension t) l marks p₀ a g) ≤ edge_range (tension t)
    unfolding edge_axis
    edge_small a g k = let s = edge_size (tension t) (tame t ok.low) (length marks) l ok.net (old_axis marks p₀ a) coordinate_range (λ x b. old_small a x) marks g k in omega arith

    pub edge_few : (g : ℕ) → g < length l → edge quads l g < wide_flag
    edge_few g k = let a = edge-lt quads (length marks) l ok.net.oriented g k in let b = edges_le quads l in let c = ok.table.sides.few in omega arith

    -- the old coordinates are the first of the refined ones
    refined-first : (k : ℕ) → k < 3 * length marks → get_or p₀ k (pos 0) ≡ refined_axis (tension t) l marks p₀ (k % 3) (k / 3)
    unfolding refined_axis old_axis axis
    refined-first k b =
        let e : 3 * (k / 3) + k % 3 ≡ k = omega arith in
        sym (get_or-take (3 * length marks) p₀ k (pos 0) b)
        ∙ ap (λ (j : ℕ). get_or (take (3 * length marks) p₀) j (pos 0)) (sym e)
        ∙ sym (refined_old (tension t) (length marks) l marks (axis (take (3 * length marks) p₀) (k % 3)) (k / 3) (omega arith))

    pub edges_none : Edges t l marks p₀ w₀ p₀ w₀ 0 0
    edges_none =
        let F : ℕ → ℤ = λ k. refined_axis (tension t) l marks p₀ (k % 3) (k / 3) in
        let N : ℕ = 3 * (length marks + 0) in
        let n : length (tabulate N F) ≡ N = length-tabulate N F in
        let r = ok.room in
        record {
          old = refl;
          points = record {
            kept = refl;
            points = joined (pos 0) p₀ (tabulate N F) p₀ (omega arith) refl (λ k b. refined-first k (omega arith) ∙ sym (get_or-tabulate N F k (pos 0) (omega arith))) (λ k b. refl)
                ∙ ap (λ (j : ℕ). tabulate N F ++ drop j p₀) n;
          };
          kept = refl;
          mates = λ k b. refl;
          behind = λ k b. refl;
          entries = λ g b. let z : ⊥ = omega arith in absurd z;
          stored = λ a g b c. let z : ⊥ = omega arith in absurd z;
        }

    module _ (p : List ℤ) (w : List ℕ) (h e : ℕ) (done : Edges t l marks p₀ w₀ p w h e) where
      pub ready_now : Ready l w
      ready_now =
          let n = done.kept in
          let r = ok.table.room in
          record {
            vertices = length marks;
            net = ok.net;
            table = record { sides = ok.table.sides; room = omega arith; mated = mates_cong l w₀ w (λ g b. done.mates g b) ok.table.mated };
          }

      points_now : Points l (take (3 * length marks) p)
      points_now =
          let f = done.old in
          let n = old_length in
          let m : length (take (3 * length marks) p) ≡ 3 * length marks = ap length f ∙ n in
          record {
            room = λ h b. let k = ok.net.oriented.below h b in omega arith;
            bounded = subst (Within coordinate_range) (sym f) ok.bounded;
          }

      classes_now : Classes (length marks) at initial l w
      classes_now =
          let n = done.kept in
          let r = ok.classes.room in
          let b = ok.behind in
          classes_same (length marks) at initial l w₀ w (omega arith) (λ p c. done.behind (at + p) (omega arith)) ok.classes

      module _ (b : h < length l) (c : e ≡ count (first_met quads l) h) where
        number : h < mate quads l h → edge quads l h ≡ e
        number m = edge_new quads l h m ∙ sym c

        below : h < mate quads l h → e < edge_count quads l
        below m = let f = number m in let g = edge-lt quads (length marks) l ok.net.oriented h b in omega arith

        exact-room : h < mate quads l h → point_place (length l) e + 6 ≤ length w
        exact-room m = let k = below m in let n = done.kept in let r = ok.classes.room in let q = ok.behind in let i = edges_le quads l in omega arith

        pub turn_in : Turn t l marks p w at initial h e
        turn_in =
            let n = count-le (first_met quads l) h in
            let r = ok.room in
            let k = done.points.kept in
            let i = done.kept in
            let j = ok.classes.room in
            let q = ok.behind in
            record {
              low = ok.low;
              ready = ready_now;
              points = points_now;
              marked = record { room = λ h b. ok.net.oriented.below h b };
              classes = classes_now;
              lt = b;
              other = mate_not quads (length marks) l ok.net.oriented h b;
              vertices = ok.vertices;
              below = omega arith;
              entries = omega arith;
              old = omega arith;
              room = λ m. let x = below m in omega arith;
              exact = exact-room;
            }

        -- ---- an edge that was met before
        module _ (m : mate quads l h < h) (w' : List ℕ) (ew : w' ≡ copied (length l) w (mate quads l h) h) where
          abbrev g : ℕ
          g = mate quads l h

          room₂ : length l + h < length w
          room₂ = let n = done.kept in let r = ok.classes.room in let q = ok.behind in omega arith

          other_now : (k : ℕ) → (k ≡ length l + h → ⊥) → get_or w' k 0 ≡ get_or w k 0
          other_now k n = ap (λ (u : List ℕ). get_or u k 0) ew ∙ get_or-set_other w (length l + h) k (get_or w (length l + g) 0) 0 n

          entry_now : (k : ℕ) → k < h → entry_of (length l) w' k ≡ entry_of (length l) w k
          unfolding entry_of
          entry_now k i = other_now (length l + k) (λ q. omega arith)

          entry_new : entry_of (length l) w' h ≡ entry_of (length l) w g
          unfolding entry_of
          entry_new = ap (λ (u : List ℕ). get_or u (length l + h) 0) ew ∙ get_or-set_same w (length l + h) (get_or w (length l + g) 0) 0 room₂

          back : mate quads l g ≡ h
          back = mate-back quads (length marks) l ok.net.oriented h b (omega arith)

          kept_now : (a entry : ℕ) (X : ℤ) → StoredAt (tension t) (length l) w a entry X → StoredAt (tension t) (length l) w' a entry X
          unfolding place_of
          kept_now a entry X s = stored_kept (length l) w w' a entry X (other_now (place_of (length l) entry + 2 * a) (λ q. omega arith)) (other_now (place_of (length l) entry + 2 * a + 1) (λ q. omega arith)) s

          entry_last : Entry l h (entry_of (length l) w' h)
          entry_last =
              let x = done.entries g m in
              let n = edge_old quads (length marks) l ok.net.oriented h b m in
              record { flag = x.flag; flagged = flagged_mate l h x.flag (omega arith) back b x.flagged; is = entry_new ∙ x.is ∙ ap (λ (i : ℕ). i + x.flag) (sym n) }

          stored_last : (a : ℕ) → a < 3 → StoredAt (tension t) (length l) w' a (entry_of (length l) w' h) (edge_axis (tension t) l marks p₀ a h)
          unfolding edge_axis
          stored_last a k =
              let s = edge_either (tension t) (length marks) l marks ok.net.oriented (old_axis marks p₀ a) h b (omega arith) in
              subst (λ (v : ℕ). StoredAt (tension t) (length l) w' a v (edge_z (tension t) l marks (old_axis marks p₀ a) h)) (sym entry_new)
              (subst (StoredAt (tension t) (length l) w' a (entry_of (length l) w g)) s (kept_now a (entry_of (length l) w g) (edge_z (tension t) l marks (old_axis marks p₀ a) g) (done.stored a g k m)))

          passed_edges : Edges t l marks p₀ w₀ p w' (h + 1) e
          passed_edges = record {
            old = done.old;
            points = done.points;
            kept = ap length ew ∙ length-set w (length l + h) (get_or w (length l + g) 0) ∙ done.kept;
            mates = λ k i. other_now k (λ q. omega arith) ∙ done.mates k i;
            behind = λ k i. other_now k (λ q. omega arith) ∙ done.behind k i;
            entries = λ k i. go k (ℕ_discrete k h) i;
            stored = λ a k j i. at_last a k j (ℕ_discrete k h) i;
          }
            where
              go : (k : ℕ) → Dec (k ≡ h) → k < h + 1 → Entry l k (entry_of (length l) w' k)
              go k (yes q) i = subst (λ (x : ℕ). Entry l x (entry_of (length l) w' x)) (sym q) entry_last
              go k (no q) i = let j : k < h = omega arith in subst (Entry l k) (sym (entry_now k j)) (done.entries k j)

              at_last : (a k : ℕ) → a < 3 → Dec (k ≡ h) → k < h + 1 → StoredAt (tension t) (length l) w' a (entry_of (length l) w' k) (edge_axis (tension t) l marks p₀ a k)
              at_last a k j (yes q) i = subst (λ (x : ℕ). StoredAt (tension t) (length l) w' a (entry_of (length l) w' x) (edge_axis (tension t) l marks p₀ a x)) (sym q) (stored_last a j)
              at_last a k j (no q) i =
                  let r : k < h = omega arith in
                  subst (λ (v : ℕ). StoredAt (tension t) (length l) w' a v (edge_axis (tension t) l marks p₀ a k)) (sym (entry_now k r)) (kept_now a (entry_of (length l) w k) (edge_axis (tension t) l marks p₀ a k) (done.stored a k j r))

        -- ---- an edge that is met now
        module _ (m : h < mate quads l h) (flag : ℕ) (x y z : ℤ) (f : Flagged l h flag) (exact : ExactPoint (tension t) flag (λ (a : ℕ). edge_z (tension t) l marks (axis (take (3 * length marks) p) a) h) x y z)
            (w' : List ℕ) (ew : w' ≡ put_edge (length l) w h e flag x y z) where
          abbrev i : ℕ
          i = point_place (length l) e

          few : e < wide_flag
          few = let a = edge_few h b in let q = number m in omega arith

          room₃ : i + 6 ≤ length w
          room₃ = exact-room m

          length₃ : length (put_three w i x y z) ≡ length w
          length₃ = length-put_three w i x y z

          far_now : (k : ℕ) → (k ≡ length l + h → ⊥) → (k < i) ⊎ (i + 6 ≤ k) → get_or w' k 0 ≡ get_or w k 0
          far_now k n o = ap (λ (u : List ℕ). get_or u k 0) ew ∙ get_or-set_other (put_three w i x y z) (length l + h) k (e + flag) 0 n ∙ put_three_other w i x y z k o

          behind_set : (k : ℕ) → 2 * length l ≤ k → get_or w' k 0 ≡ get_or (put_three w i x y z) k 0
          behind_set k o = ap (λ (u : List ℕ). get_or u k 0) ew ∙ get_or-set_other (put_three w i x y z) (length l + h) k (e + flag) 0 (λ q. omega arith)

          entry_kept : (k : ℕ) → k < h → entry_of (length l) w' k ≡ entry_of (length l) w k
          unfolding entry_of
          entry_kept k j = far_now (length l + k) (λ q. omega arith) (inl (omega arith))

          entry_met : entry_of (length l) w' h ≡ e + flag
          unfolding entry_of
          entry_met =
              let n = length₃ in
              let r = room₃ in
              ap (λ (u : List ℕ). get_or u (length l + h) 0) ew ∙ get_or-set_same (put_three w i x y z) (length l + h) (e + flag) 0 (omega arith)

          -- the exact point
          value : (a : ℕ) (u : ℤ) → ExactEdge (tension t) flag (edge_z (tension t) l marks (axis (take (3 * length marks) p) a) h) u → ExactEdge (tension t) flag (edge_axis (tension t) l marks p₀ a h) u
          unfolding edge_axis old_axis
          value a u k = subst (λ (q : List ℤ). ExactEdge (tension t) flag (edge_z (tension t) l marks (axis q a) h) u) done.old k

          number_is : (a : ℕ) (u : ℤ) → ExactEdge (tension t) flag (edge_axis (tension t) l marks p₀ a h) u → pos (unit_of (tension t) (e + flag)) *ℤ u ≡ edge_axis (tension t) l marks p₀ a h
          number_is a u k = ap (λ (j : ℕ). pos j *ℤ u) (entry_unit l h flag e few f) ∙ k.value

          place_is : place_of (length l) (e + flag) ≡ i
          place_is = entry_place l h flag (length l) e few f

          held : (a j : ℕ) (u : ℤ) → i + j ≡ i + 2 * a → j ≤ 4 → ExactEdge (tension t) flag (edge_axis (tension t) l marks p₀ a h) u → Holds (put_three w i x y z) (i + j) u → StoredAt (tension t) (length l) w' a (e + flag) (edge_axis (tension t) l marks p₀ a h)
          held a j u q s k o = record {
            number = u;
            holds = let n = place_is in let c : place_of (length l) (e + flag) + 2 * a ≡ i + j = omega arith in
                subst (λ (v : ℕ). Holds w' v u) (sym c) (holds_kept (put_three w i x y z) w' (i + j) u (behind_set (i + j) (omega arith)) (behind_set (i + j + 1) (omega arith)) o);
            value = number_is a u k;
          }

          in_range : (a : ℕ) (u : ℤ) → ExactEdge (tension t) flag (edge_axis (tension t) l marks p₀ a h) u → nat_abs u < 2 ^ 55
          in_range a u k = let r = edge_range_le t ok.low in let q = number_small l h flag (edge_axis (tension t) l marks p₀ a h) u f k in omega arith

          stored_met : (a : ℕ) → a < 3 → StoredAt (tension t) (length l) w' a (e + flag) (edge_axis (tension t) l marks p₀ a h)
          stored_met zero k =
              let v = value 0 x exact.on₀ in
              let q : i + 0 ≡ i = omega arith in
              held 0 0 x (omega arith) (omega arith) v (subst (λ (j : ℕ). Holds (put_three w i x y z) j x) (sym q) (put_three_first w i x y z room₃ (in_range 0 x v)))
          stored_met (suc zero) k = let v = value 1 y exact.on₁ in held 1 2 y (omega arith) (omega arith) v (put_three_second w i x y z room₃ (in_range 1 y v))
          stored_met (suc (suc zero)) k = let v = value 2 z exact.on₂ in held 2 4 z (omega arith) (omega arith) v (put_three_third w i x y z room₃ (in_range 2 z v))
          stored_met (suc (suc (suc a))) k = let n : ⊥ = omega arith in absurd n

          -- what was stored before stays
          before_met : (a k : ℕ) → a < 3 → k < h → StoredAt (tension t) (length l) w' a (entry_of (length l) w k) (edge_axis (tension t) l marks p₀ a k)
          before_met a k j r =
              let o = done.entries k r in
              let u = edge_below quads (length marks) l ok.net.oriented k h (omega arith) r in
              let n : place_of (length l) (entry_of (length l) w k) ≡ point_place (length l) (edge quads l k) = ap (place_of (length l)) o.is ∙ entry_place l k o.flag (length l) (edge quads l k) (edge_few k (omega arith)) o.flagged in
              stored_kept (length l) w w' a (entry_of (length l) w k) (edge_axis (tension t) l marks p₀ a k)
              (far_now (place_of (length l) (entry_of (length l) w k) + 2 * a) (λ q. omega arith) (inl (omega arith)))
              (far_now (place_of (length l) (entry_of (length l) w k) + 2 * a + 1) (λ q. omega arith) (inl (omega arith))) (done.stored a k j r)

          -- the rounded point
          rounded_is : (a : ℕ) (u : ℤ) → ExactEdge (tension t) flag (edge_z (tension t) l marks (axis (take (3 * length marks) p) a) h) u → rounded_by (tension t) flag u ≡ refined_axis (tension t) l marks p₀ a (length marks + e)
          unfolding rounded_by refined_axis edge_axis
          rounded_is a u k =
              ap (λ (v : ℤ). round v (edge_scale (tension t))) (value a u k).value
              ∙ sym (refined-edge (tension t) (omega arith) (omega arith) (length marks) l marks ok.net (old_axis marks p₀ a) h b)
              ∙ ap (λ (j : ℕ). refined_coordinate (tension t) (length marks) l marks (old_axis marks p₀ a) (length marks + j)) (number m)

          met_edges : (p' : List ℤ) → p' ≡ put_point p (length marks + e) (rounded_by (tension t) flag x) (rounded_by (tension t) flag y) (rounded_by (tension t) flag z) → Edges t l marks p₀ w₀ p' w' (h + 1) (e + 1)
          met_edges p' ep =
              let k = below m in
              let j = edges_le quads l in
              let r = ok.room in
              let n : length marks + e + 1 ≡ length marks + (e + 1) = omega arith in
              let s : p' ≡ put_point p (length marks + e) (refined_axis (tension t) l marks p₀ 0 (length marks + e)) (refined_axis (tension t) l marks p₀ 1 (length marks + e)) (refined_axis (tension t) l marks p₀ 2 (length marks + e)) =
              cc (ep, rounded_is 0 x exact.on₀, rounded_is 1 y exact.on₁, rounded_is 2 z exact.on₂) in
              record {
                old = ap (take (3 * length marks)) ep ∙ take_point (length marks) (length marks + e) p (rounded_by (tension t) flag x) (rounded_by (tension t) flag y) (rounded_by (tension t) flag z) (omega arith) ∙ done.old;
                points = subst (PointsWritten (refined_axis (tension t) l marks p₀) p₀ p') n (written_next (refined_axis (tension t) l marks p₀) p₀ p p' (length marks + e) (omega arith) done.points s);
                kept = ap length ew ∙ length-set (put_three w i x y z) (length l + h) (e + flag) ∙ length₃ ∙ done.kept;
                mates = λ q d. far_now q (λ r. omega arith) (inl (omega arith)) ∙ done.mates q d;
                behind = λ q d. far_now q (λ r. omega arith) (inr (omega arith)) ∙ done.behind q d;
                entries = λ q d. go q (ℕ_discrete q h) d;
                stored = λ a q u d. at_last a q u (ℕ_discrete q h) d;
              }
            where
              go : (k : ℕ) → Dec (k ≡ h) → k < h + 1 → Entry l k (entry_of (length l) w' k)
              go k (yes q) d =
                  subst (λ (j : ℕ). Entry l j (entry_of (length l) w' j)) (sym q)
                  (record { flag = flag; flagged = f; is = entry_met ∙ ap (λ (j : ℕ). j + flag) (sym (number m)) })
              go k (no q) d = let j : k < h = omega arith in subst (Entry l k) (sym (entry_kept k j)) (done.entries k j)

              at_last : (a k : ℕ) → a < 3 → Dec (k ≡ h) → k < h + 1 → StoredAt (tension t) (length l) w' a (entry_of (length l) w' k) (edge_axis (tension t) l marks p₀ a k)
              at_last a k j (yes q) d =
                  subst (λ (j : ℕ). StoredAt (tension t) (length l) w' a (entry_of (length l) w' j) (edge_axis (tension t) l marks p₀ a j)) (sym q)
                  (subst (λ (v : ℕ). StoredAt (tension t) (length l) w' a v (edge_axis (tension t) l marks p₀ a h)) (sym entry_met) (stored_met a j))
              at_last a k j (no q) d =
                  let r : k < h = omega arith in
                  subst (λ (v : ℕ). StoredAt (tension t) (length l) w' a v (edge_axis (tension t) l marks p₀ a k)) (sym (entry_kept k r)) (before_met a k j r)

        -- ---- a turn of the pass
        pub turned_edges : (r : ℕ) (p' : List ℤ) (w' : List ℕ) → Turned t l marks h e r p w p' w' → Edges t l marks p₀ w₀ p' w' (h + 1) r
        turned_edges r p' w' (met flag x y z m er f exact ep ew) = subst (Edges t l marks p₀ w₀ p' w' (h + 1)) (sym er) (met_edges m flag x y z f exact w' ew p' ep)
        turned_edges r p' w' (passed m er ep ew) =
            subst (Edges t l marks p₀ w₀ p' w' (h + 1)) (sym er) (subst (λ (q : List ℤ). Edges t l marks p₀ w₀ q w' (h + 1) e) (sym ep) (passed_edges m w' ew))

        pub turned_count : (r : ℕ) (p' : List ℤ) (w' : List ℕ) → Turned t l marks h e r p w p' w' → r ≡ count (first_met quads l) (h + 1)
        turned_count r p' w' (met flag x y z m er f exact ep ew) = rw (add-one h) (er ∙ ap (λ (k : ℕ). k + 1) c ∙ sym (count_new quads l h m))
        turned_count r p' w' (passed m er ep ew) = rw (add-one h) (er ∙ c ∙ sym (count_old quads l h (omega arith)))
