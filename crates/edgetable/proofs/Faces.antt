-- What the edges leave in the work table is what the faces ask for: exact points, directions, rules and face points are those of the definitions.
use mathlib.Core.Path.{◌≡◌, refl, sym, ap, ap₂, ◌∙◌, subst}
use mathlib.Core.Bool.{Bool, true, false, cond, ◌&&◌}
use mathlib.Core.List.{List, [], ◌∷◌}
use Prim.Native.Nat.{ℕ, ◌+◌, ◌*◌, ◌<◌, ◌≤◌}
use native.Mathlib.Decide.{dec_lt}
use native.Mathlib.Omega.{arith}
use borrow.Author.Tests.{lt-ltb, le-ltb, ltb-true}
use lib.Dec.{ltb}
use lib.IntN.{ℤ, pos, nat_abs, ◌+ℤ◌, ◌*ℤ◌}
use lib.ListN.{length, get_or}
use Rattle.integers.proofs.Polynomial.{var, lit, ◌⊞◌, ◌⊠◌, same}
use Rattle.rounding.specs.Rounding.{round}
use Rattle.curve.specs.Weights.{tension, interior, end_edge, single_edge, mirror}
use Rattle.curve.proofs.Mirror.{end_mirrored, single_mirrored, interior_turned}
use Rattle.rings.specs.Scales.{face_scale}
use Rattle.topology.specs.Shape.{quads}
use Rattle.topology.specs.HalfEdge.{from, to, mate, edge, edge_count}
use Rattle.topology.specs.Quads.{across, beyond}
use Rattle.topology.proofs.Mates.{edge-lt, edges_le}
use Rattle.scheme.specs.Points.{inner, four_inner, first_alone, second_alone, both_inner, neither_inner, face_rule}
use Rattle.schemelaws.specs.Numerators.{direction_z, face_value_z, face_z}
use Rattle.schemelaws.specs.Agreement.{SideOf, EightOrdinary}
use Rattle.schemelaws.specs.Ordinary.{Ordinary}
use Rattle.schemelaws.proofs.Ties.{across_lt, side₀_lt, side₁_lt}
use Rattle.schemelaws.proofs.OneDirection.{by_sides}
use Rattle.schemelaws.proofs.Plain.{directions_equal}
use Rattle.edgeentries.specs.Entry.{wide_flag, boundary_flag, entry_of, edge_of, place_of, unit_of, exact_at, exact_of}
use Rattle.edgeentries.proofs.Packed.{holds_value, holds_high}
use Rattle.facerules.specs.declared.FaceRule.TheVariants.{FirstAlone, SecondAlone, BothInner, NeitherInner}
use Rattle.facerules.specs.Faces.{beyond_of, far_of, direction_of, inner_twice_of, four_inner_of, face_rule_of, face_value_of, face_coordinate, PlainTwice, AllPlain, FaceTable}
use Rattle.exactedges.specs.Edge.{Flagged, plain, wide, boundary}
use Rattle.edgetable.specs.EdgeTable.{old_axis, edge_axis, Round, Entry, Edges}
use Rattle.edgetable.proofs.EdgeTable.{entry-edge, edge_few, edge_small, ready_now}

-- ---- an entry tells what its edge is
module _ (l : List ℕ) (h entry : ℕ) (few : edge quads l h < wide_flag) (o : Entry l h entry) where
  entry-inner : ltb entry boundary_flag ≡ ltb (mate quads l h) (length l)
  entry-inner = go o.flagged
    where
      go : Flagged l h o.flag → ltb entry boundary_flag ≡ ltb (mate quads l h) (length l)
      go (plain m a b e) = let q = o.is in lt-ltb entry boundary_flag (omega arith) ∙ sym (lt-ltb (mate quads l h) (length l) m)
      go (wide m x e) = let q = o.is in lt-ltb entry boundary_flag (omega arith) ∙ sym (lt-ltb (mate quads l h) (length l) m)
      go (boundary m e) = let q = o.is in le-ltb entry boundary_flag (omega arith) ∙ sym (le-ltb (mate quads l h) (length l) (omega arith))

  entry-plain : entry < wide_flag → (mate quads l h < length l) × Ordinary l (from l h) × Ordinary l (to quads l h)
  entry-plain b = go o.flagged
    where
      go : Flagged l h o.flag → (mate quads l h < length l) × Ordinary l (from l h) × Ordinary l (to quads l h)
      go (plain m a c e) = (m, a, c)
      go (wide m x e) = let q = o.is in let z : ⊥ = omega arith in absurd z
      go (boundary m e) = let q = o.is in let z : ⊥ = omega arith in absurd z

-- ---- conjunctions
swapped : (a b c d : Bool) → (a && b) && (c && d) ≡ a && c && b && d
swapped true true true true = refl
swapped true true true false = refl
swapped true true false d = refl
swapped true false true d = refl
swapped true false false d = refl
swapped false b c d = refl

module _ (t : ℕ) where
  -- ---- a direction with mirrored points
  module _ (low : t ≤ 4) (x y : ℤ) where
    first_mirrored : (u : ℤ) → interior (tension t) u x y (mirror y x) ≡ end_edge (tension t) y x u
    first_mirrored u = interior_turned (tension t) u x y (mirror y x) ∙ sym (end_mirrored (tension t) (omega arith) y x u)

    by_neighbours : (b c : Bool) (u v : ℤ)
        → interior (tension t) (cond b u (mirror x y)) x y (cond c v (mirror y x))
        ≡ cond b (cond c (interior (tension t) u x y v) (end_edge (tension t) y x u)) (cond c (end_edge (tension t) x y v) (single_edge (tension t) x y))
    by_neighbours true true u v = refl
    by_neighbours true false u v = first_mirrored u
    by_neighbours false true u v = sym (end_mirrored (tension t) (omega arith) x y v)
    by_neighbours false false u v = sym (single_mirrored (tension t) (omega arith) x y)

  module _ (l marks : List ℕ) (p₀ : List ℤ) (w₀ : List ℕ) (at initial : ℕ) (ok : Round t l marks p₀ w₀ at initial) (p : List ℤ) (w : List ℕ) (done : Edges t l marks p₀ w₀ p w (length l) (edge_count quads l)) where
    abbrev n : ℕ
    n = length l

    abbrev E : ℕ → ℕ → ℤ
    E a = edge_axis (tension t) l marks p₀ a

    few : (h : ℕ) → h < n → edge quads l h < wide_flag
    few h k = edge_few t l marks p₀ w₀ at initial ok h k

    mate_now : (h : ℕ) → h < n → get_or w h 0 ≡ mate quads l h
    mate_now h k = (ready_now t l marks p₀ w₀ at initial ok p w n (edge_count quads l) done).table.mated.mates h k

    beyond_now : (h : ℕ) → h < n → beyond_of w h ≡ beyond l h
    unfolding beyond_of beyond
    beyond_now h k = ap across (mate_now h k)

    beyond-lt : (h : ℕ) → mate quads l h < n → beyond l h < n
    unfolding beyond
    beyond-lt h m = across_lt (length marks) l ok.net (mate quads l h) m

    -- ---- values
    exact_is : (a h : ℕ) → a < 3 → h < n → exact_of (tension t) n w a h ≡ E a h
    unfolding exact_of exact_at
    exact_is a h k b =
        let s = done.stored a h k b in
        ap (λ (z : ℤ). pos (unit_of (tension t) (entry_of n w h)) *ℤ z) (holds_value w (place_of n (entry_of n w h) + 2 * a) s.number s.holds) ∙ s.value

    far_is : (a h : ℕ) (x y : ℤ) → a < 3 → h < n → far_of (tension t) n w a h x y ≡ cond (ltb (mate quads l h) n) (E a (beyond l h)) (mirror x y)
    unfolding far_of
    far_is a h x y k b =
        ap₂ (λ (i j : ℕ). cond (ltb i n) (exact_of (tension t) n w a j) (mirror x y)) (mate_now h b) (beyond_now h b) ∙ go (dec_lt (mate quads l h) n)
      where
        go : Dec (mate quads l h < n) → cond (ltb (mate quads l h) n) (exact_of (tension t) n w a (beyond l h)) (mirror x y) ≡ cond (ltb (mate quads l h) n) (E a (beyond l h)) (mirror x y)
        go (yes m) = ap (λ (z : ℤ). cond (ltb (mate quads l h) n) z (mirror x y)) (exact_is a (beyond l h) k (beyond-lt h m))
        go (no m) = let b = le-ltb (mate quads l h) n (omega arith) in rw b

    direction_is : (a h : ℕ) → a < 3 → h < n → direction_of (tension t) n w a h ≡ direction_z (tension t) l (E a) h
    unfolding direction_of direction_z
    direction_is a h k b =
        let j = across_lt (length marks) l ok.net h b in
        let x = exact_is a h k b in
        let y = exact_is a (across h) k j in
        let u = far_is a h (E a h) (E a (across h)) k b in
        let v = far_is a (across h) (E a (across h)) (E a h) k j in
        ap₂ (λ (s r : ℤ). interior (tension t) (far_of (tension t) n w a h s r) s r (far_of (tension t) n w a (across h) r s)) x y
        ∙ ap₂ (λ (s r : ℤ). interior (tension t) s (E a h) (E a (across h)) r) u v
        ∙ by_neighbours ok.low (E a h) (E a (across h)) (ltb (mate quads l h) n) (ltb (mate quads l (across h)) n) (E a (beyond l h)) (E a (beyond l (across h)))

    -- ---- rules
    twice_is : (h : ℕ) → h < n → inner_twice_of n w h ≡ inner l h && inner l (beyond l h)
    unfolding inner_twice_of inner
    twice_is h b =
        ap₂ (λ (i j : ℕ). ltb i n && ltb (entry_of n w j) boundary_flag) (mate_now h b) (beyond_now h b) ∙ go (dec_lt (mate quads l h) n)
      where
        go : Dec (mate quads l h < n) → ltb (mate quads l h) n && ltb (entry_of n w (beyond l h)) boundary_flag ≡ ltb (mate quads l h) n && ltb (mate quads l (beyond l h)) n
        go (yes m) = let j = beyond-lt h m in ap (λ (c : Bool). ltb (mate quads l h) n && c) (entry-inner l (beyond l h) (entry_of n w (beyond l h)) (few (beyond l h) j) (done.entries (beyond l h) j))
        go (no m) = let b = le-ltb (mate quads l h) n (omega arith) in rw b

    four_is : (h : ℕ) → h < n → four_inner_of n w h ≡ four_inner l h
    unfolding four_inner_of four_inner
    four_is h b =
        let j = across_lt (length marks) l ok.net h b in
        ap₂ (λ (c d : Bool). c && d) (twice_is h b) (twice_is (across h) j) ∙ swapped (inner l h) (inner l (beyond l h)) (inner l (across h)) (inner l (beyond l (across h)))

    -- ---- faces
    twice : (x : ℤ) → x +ℤ x ≡ pos 2 *ℤ x
    twice x = same (var 0 ⊞ var 0) (lit (pos 2) ⊠ var 0) (x ∷ []) refl

    by_rule : (e : ℕ → ℤ) (f : ℕ) (a : ℕ) (b c : Bool) → direction_of (tension t) n w a (4 * f) ≡ direction_z (tension t) l e (4 * f) → direction_of (tension t) n w a (4 * f + 1) ≡ direction_z (tension t) l e (4 * f + 1)
        → face_value_of (tension t) n w a f (cond b (cond c BothInner FirstAlone) (cond c SecondAlone NeitherInner)) ≡ face_value_z (tension t) l e f (cond b (cond c both_inner first_alone) (cond c second_alone neither_inner))
    unfolding face_value_of face_value_z
    by_rule e f a true true x y = ap₂ (λ (s r : ℤ). s +ℤ r) x y
    by_rule e f a true false x y = ap₂ (λ (s r : ℤ). s +ℤ r) x x ∙ twice (direction_z (tension t) l e (4 * f))
    by_rule e f a false true x y = ap₂ (λ (s r : ℤ). s +ℤ r) y y ∙ twice (direction_z (tension t) l e (4 * f + 1))
    by_rule e f a false false x y = ap₂ (λ (s r : ℤ). s +ℤ r) x y

    pub face_is_lem : (a f : ℕ) → a < 3 → f < quads.faces n → face_coordinate (tension t) n w a f ≡ round (face_z (tension t) l (E a) f) (face_scale (tension t))
    unfolding face_coordinate face_rule_of face_z face_rule
    face_is_lem a f k b =
        let b₀ = side₀_lt l f b in
        let b₁ = side₁_lt l f b in
        ap (λ (z : ℤ). round z (face_scale (tension t)))
        (ap₂ (λ (c d : Bool). face_value_of (tension t) n w a f (cond c (cond d BothInner FirstAlone) (cond d SecondAlone NeitherInner))) (four_is (4 * f) b₀) (four_is (4 * f + 1) b₁)
        ∙ by_rule (E a) f a (four_inner l (4 * f)) (four_inner l (4 * f + 1)) (direction_is a (4 * f) k b₀) (direction_is a (4 * f + 1) k b₁))

    -- ---- where all eight edges are plain, both directions agree
    module _ (f : ℕ) (b : 4 * f < n) (all : AllPlain n w f) where
      side : (g : ℕ) → SideOf l f g → PlainTwice n w g
      side = by_sides l f (PlainTwice n w) all.side₀ all.side₁ all.side₂ all.side₃

      mated : (g : ℕ) → SideOf l f g → mate quads l g < n
      mated g s = let m = mate_now g s.lt in let q = (side g s).mated in omega arith

      near_edge : (g : ℕ) → SideOf l f g → (mate quads l g < n) × Ordinary l (from l g) × Ordinary l (to quads l g)
      near_edge g s = entry-plain l g (entry_of n w g) (few g s.lt) (done.entries g s.lt) (side g s).near

      far_edge : (g : ℕ) → SideOf l f g → (mate quads l (beyond l g) < n) × Ordinary l (from l (beyond l g)) × Ordinary l (to quads l (beyond l g))
      far_edge g s =
          let j = beyond-lt g (mated g s) in
          entry-plain l (beyond l g) (entry_of n w (beyond l g)) (few (beyond l g) j) (done.entries (beyond l g) j) (subst (λ (i : ℕ). entry_of n w i < wide_flag) (beyond_now g s.lt) (side g s).far)

      eight : EightOrdinary l f
      eight = record {
        inner = λ g s. (near_edge g s).0;
        beyond_inner = λ g s. (far_edge g s).0;
        corner = λ g s. (near_edge g s).1;
        start = λ g s. (far_edge g s).1;
        end = λ g s. (far_edge g s).2;
      }

      face_lt : f < quads.faces n
      unfolding quads
      face_lt = let r = ok.table.sides.fours in omega arith

      agree_now : (a : ℕ) → a < 3 → direction_of (tension t) n w a (4 * f) ≡ direction_of (tension t) n w a (4 * f + 1)
      unfolding edge_axis
      agree_now a k =
          direction_is a (4 * f) k b
          ∙ directions_equal (tension t) (omega arith) (omega arith) (length marks) l marks ok.net (old_axis marks p₀ a) f face_lt eight
          ∙ sym (direction_is a (4 * f + 1) k (side₁_lt l f face_lt))

    pub number_is : (h : ℕ) → h < n → edge_of (entry_of n w h) ≡ edge quads l h
    number_is h b = let o = done.entries h b in ap edge_of o.is ∙ entry-edge l h o.flag (edge quads l h) (few h b) o.flagged

    pub inner_is : (h : ℕ) → h < n → ltb (entry_of n w h) boundary_flag ≡ ltb (mate quads l h) n
    inner_is h b = entry-inner l h (entry_of n w h) (few h b) (done.entries h b)

    pub face_table_lem : FaceTable t n w
    face_table_lem =
        let r = ok.classes.room in
        let q = ok.behind in
        let k = done.kept in
        record {
          entries = record {
            fours = ok.table.sides.fours;
            few = ok.table.sides.few;
            room = omega arith;
            numbers = λ h b. let e = number_is h b in let c = edge-lt quads (length marks) l ok.net.oriented h b in let d = edges_le quads l in omega arith;
            boundary = λ h b c.
                let e = mate_now h b in
                let m = ltb-true (mate quads l h) n (sym (inner_is h b) ∙ lt-ltb (entry_of n w h) boundary_flag c) in
                omega arith;
            high = λ a h c b. let s = done.stored a h c b in holds_high w (place_of n (entry_of n w h) + 2 * a) s.number s.holds;
          };
          low = ok.low;
          small = λ a h c b. let e = ap nat_abs (exact_is a h c b) in let s = edge_small t l marks p₀ w₀ at initial ok a h b in omega arith;
          agree = λ a f c b all. agree_now f b all a c;
        }
