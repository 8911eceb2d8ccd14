-- The same segment read the other way: an open one from its other end, a closed one from the same vertex; and a closed one from the next vertex.
use mathlib.Core.Path.{◌≡◌, refl, sym, ap, ap₂, ◌∙◌}
use mathlib.Core.List.{List, [], ◌∷◌, ◌++◌, reverse, reverse-append}
use Prim.Native.Nat.{ℕ, zero, suc, ◌+◌, ◌-◌, ◌≤◌, ◌<◌}
use native.Mathlib.Omega.{arith}
use lib.ListN.{length}
use Rattle.lists.specs.Tabulate.{tabulate}
use Rattle.lists.proofs.Tabulate.{tabulate_cong}
use Rattle.search.specs.Search.{iterate}
use Rattle.search.proofs.Iterate.{iterate-add}
use Rattle.nets.specs.Net.{Net, marked, point_of}
use Rattle.curve.specs.Curve.{Point}
use Rattle.curve.proofs.Rotation.{rotate, flip}
use Rattle.topology.specs.Shape.{Shape}
use Rattle.topology.specs.HalfEdge.{from}
use Rattle.topology.specs.Boundary.{boundary_from, Way, other, boundary_step}
use Rattle.topology.proofs.Loops.{steps_undone}
use Rattle.seam.specs.Reading.{next_vertex, vertex_at, points, OpenReading, ClosedReading}
use Rattle.seam.specs.Seam.{AdmissibleIn}
use Rattle.seam.proofs.Vertices.{vertex_from, half_edge_on, vertex_at_lem, boundary_at}

-- ---- a table read backwards
module _ {A : Type 0} where
  tabulate_snoc : (n : ℕ) (g : ℕ → A) → tabulate (suc n) g ≡ tabulate n g ++ (g n ∷ [])
  unfolding tabulate
  tabulate_snoc zero g = refl
  tabulate_snoc (suc n) g = ap (λ (l : List A). g 0 ∷ l) (tabulate_snoc n (λ (i : ℕ). g (suc i)))

  reverse-tabulate : (n : ℕ) (g : ℕ → A) → reverse (tabulate n g) ≡ tabulate n (λ (i : ℕ). g (n - suc i))
  unfolding tabulate
  reverse-tabulate zero g = refl
  reverse-tabulate (suc n) g =
      let e : n ≡ suc n - 1 = omega arith in
      ap reverse (tabulate_snoc n g)
      ∙ reverse-append (tabulate n g) (g n ∷ [])
      ∙ ap₂ (λ (x : A) (l : List A). x ∷ l) (ap g e)
      (reverse-tabulate n g ∙ tabulate_cong n (λ (i : ℕ). g (n - suc i)) (λ (i : ℕ). g (suc n - suc (suc i))) (λ i k. let d : n - suc i ≡ suc n - suc (suc i) = omega arith in ap g d))

module _ (S : Shape) (m : Net) (ok : AdmissibleIn S m) (way : Way) (u : ℕ) (b : boundary_from S m.faces u < length m.faces) where
  -- n vertices on, and i of them back
  undone : (n i : ℕ) → i ≤ n → vertex_at S m.faces (other way) (vertex_at S m.faces way u n) i ≡ vertex_at S m.faces way u (n - i)
  undone n i c =
      let v : ℕ = length m.marks in
      let l : List ℕ = m.faces in
      let h : ℕ → ℕ = λ j. iterate (boundary_step S l way) j (boundary_from S l u) in
      let e : n ≡ i + (n - i) = omega arith in
      ap (λ (x : ℕ). vertex_at S l (other way) x i) (vertex_at_lem S v l ok way u b n)
      ∙ vertex_from S v l ok (other way) (h n) i (half_edge_on S v l ok way u b n)
      ∙ ap (λ (g : ℕ). from l (iterate (boundary_step S l (other way)) i g)) (ap h e ∙ iterate-add (boundary_step S l way) i (n - i) (boundary_from S l u))
      ∙ ap (from l) (steps_undone S v l ok way i (h (n - i)) (half_edge_on S v l ok way u b (n - i)))
      ∙ sym (vertex_at_lem S v l ok way u b (n - i))

  pub open_reversed : (L : List Point) (r : OpenReading S m way u L) → OpenReading S m (other way) (vertex_at S m.faces way u r.edges) (reverse L)
  unfolding points vertex_at iterate
  open_reversed L r =
      let n : ℕ = r.edges in
      let z : n - n ≡ 0 = omega arith in
      record {
        boundary = boundary_at S (length m.marks) m.faces ok way u b n;
        starts = r.ends;
        edges = n;
        some = r.some;
        between = λ i c d. ap (marked m.marks) (undone n i (omega arith)) ∙ r.between (n - i) (omega arith) (omega arith);
        ends = ap (marked m.marks) (undone n n (omega arith) ∙ ap (vertex_at S m.faces way u) z) ∙ r.starts;
        list = ap reverse r.list ∙ reverse-tabulate (suc n) (λ (i : ℕ). point_of m (vertex_at S m.faces way u i))
            ∙ tabulate_cong (suc n) (λ (i : ℕ). point_of m (vertex_at S m.faces way u (suc n - suc i))) (λ (i : ℕ). point_of m (vertex_at S m.faces (other way) (vertex_at S m.faces way u n) i))
            (λ i c. let e : suc n - suc i ≡ n - i = omega arith in ap (point_of m) (ap (vertex_at S m.faces way u) e ∙ sym (undone n i (omega arith))));
      }

  -- ---- closed
  module _ (n : ℕ) (z : 0 < n) (e : vertex_at S m.faces way u n ≡ u) where
    other_near : (i : ℕ) → i ≤ n → vertex_at S m.faces (other way) u i ≡ vertex_at S m.faces way u (n - i)
    other_near i c = ap (λ (x : ℕ). vertex_at S m.faces (other way) x i) (sym e) ∙ undone n i c

    -- what is met the other way is met this way
    met : (i : ℕ) → (j : ℕ) × (vertex_at S m.faces (other way) u i ≡ vertex_at S m.faces way u j)
    unfolding vertex_at iterate
    met zero = (0, refl)
    met (suc i) = before (met i).0 (met i).1
      where
        before : (j : ℕ) → vertex_at S m.faces (other way) u i ≡ vertex_at S m.faces way u j → (k : ℕ) × (vertex_at S m.faces (other way) u (suc i) ≡ vertex_at S m.faces way u k)
        before zero p = (n - 1, ap (next_vertex S m.faces (other way)) p ∙ other_near 1 (omega arith))
        before (suc j) p = let d : suc j - 1 ≡ j = omega arith in (j, ap (next_vertex S m.faces (other way)) p ∙ undone (suc j) 1 (omega arith) ∙ ap (vertex_at S m.faces way u) d)

  flip_points : (n : ℕ) → 0 < n → vertex_at S m.faces way u n ≡ u → flip (points S m way u n) ≡ points S m (other way) u n
  unfolding points vertex_at iterate tabulate
  flip_points zero z e = absurd (omega arith)
  flip_points (suc n) z e =
      let g : ℕ → Point = λ i. point_of m (vertex_at S m.faces way u (suc i)) in
      let f : ℕ → Point = λ i. point_of m (vertex_at S m.faces (other way) u (suc i)) in
      ap (λ (l : List Point). point_of m u ∷ l)
      (reverse-tabulate n g
      ∙ tabulate_cong n (λ (i : ℕ). g (n - suc i)) f (λ i k. let d : suc (n - suc i) ≡ suc n - suc i = omega arith in ap (point_of m) (ap (vertex_at S m.faces way u) d ∙ sym (other_near (suc n) z e (suc i) (omega arith)))))

  pub closed_flipped : (L : List Point) → ClosedReading S m way u L → ClosedReading S m (other way) u (flip L)
  unfolding vertex_at iterate
  closed_flipped L r =
      let n : ℕ = r.edges in
      let near = other_near n r.some r.returns in
      let d : n - n ≡ 0 = omega arith in
      record {
        boundary = b;
        unmarked = λ i. let j = met n r.some r.returns i in ap (marked m.marks) j.1 ∙ r.unmarked j.0;
        edges = n;
        some = r.some;
        once = λ i x y q. r.once (n - i) (omega arith) (omega arith) (sym (near i (omega arith)) ∙ q);
        returns = near n (omega arith) ∙ ap (vertex_at S m.faces way u) d;
        list = ap flip r.list ∙ flip_points n r.some r.returns;
      }

  -- ---- from the next vertex
  from_next : (i : ℕ) → vertex_at S m.faces way (next_vertex S m.faces way u) i ≡ vertex_at S m.faces way u (suc i)
  unfolding vertex_at iterate
  from_next zero = refl
  from_next (suc i) = ap (next_vertex S m.faces way) (from_next i)

  rotate_points : (n : ℕ) → 0 < n → vertex_at S m.faces way u n ≡ u → rotate (points S m way u n) ≡ points S m way (next_vertex S m.faces way u) n
  unfolding points vertex_at iterate tabulate
  rotate_points zero z e = absurd (omega arith)
  rotate_points (suc n) z e =
      let g : ℕ → Point = λ i. point_of m (vertex_at S m.faces way u (suc i)) in
      ap (λ (x : ℕ). tabulate n g ++ (point_of m x ∷ [])) (sym e)
      ∙ sym (tabulate_snoc n g)
      ∙ tabulate_cong (suc n) g (λ (i : ℕ). point_of m (vertex_at S m.faces way (next_vertex S m.faces way u) i)) (λ i k. ap (point_of m) (sym (from_next i)))

  pub closed_rotated : (L : List Point) → ClosedReading S m way u L → ClosedReading S m way (next_vertex S m.faces way u) (rotate L)
  unfolding vertex_at iterate
  closed_rotated L r =
      let n : ℕ = r.edges in
      let f : ℕ → ℕ = next_vertex S m.faces way in
      record {
        boundary = boundary_at S (length m.marks) m.faces ok way u b 1;
        unmarked = λ i. ap (marked m.marks) (from_next i) ∙ r.unmarked (suc i);
        edges = n;
        some = r.some;
        once = λ i x y q.
            let d : suc i - 1 ≡ i = omega arith in
            r.once i x y (ap (vertex_at S m.faces way u) (sym d) ∙ sym (undone (suc i) 1 (omega arith)) ∙ ap (next_vertex S m.faces (other way)) (sym (from_next i) ∙ q) ∙ undone 1 1 (omega arith));
        returns = from_next n ∙ ap f r.returns;
        list = ap rotate r.list ∙ rotate_points n r.some r.returns;
      }
