-- No coordinate grows in the split: midpoints and means of numbers within a bound, rounded, lie within it.
use mathlib.Core.List.{List}
use Prim.Native.Nat.{ℕ, ◌+◌, ◌*◌, ◌/◌, ◌%◌, ◌≤◌, ◌<◌}
use native.Mathlib.Omega.{arith}
use lib.IntN.{ℤ, nat_abs, ◌+ℤ◌}
use lib.ListN.{length}
use Rattle.integers.specs.Sum.{sum}
use Rattle.integers.specs.Within.{Within}
use Rattle.integers.proofs.AbsoluteValue.{abs-add}
use Rattle.integers.proofs.Sum.{abs-sum}
use Rattle.search.specs.Search.{iterate}
use Rattle.rounding.proofs.Laws.{round_within}
use Rattle.topology.specs.Shape.{Shape}
use Rattle.topology.specs.HalfEdge.{from, to, edge_count, edge}
use Rattle.topology.specs.Manifold.{Oriented}
use Rattle.topology.proofs.Shape.{nexts_lt}
use Rattle.polygons.specs.Polygons.{shape_of}
use Rattle.refinedfaces.specs.Refined.{refined_vertices}
use Rattle.refinedfaces.proofs.Corners.{refined-cases}
use Rattle.nets.specs.Net.{ControlNet, axis}
use Rattle.splitting.specs.Splitting.{first_side, split_coordinate, split, start_net}
use Rattle.splitting.specs.WellFormed.{WellFormed}
use Rattle.splitting.proofs.Coordinates.{split_old, split-edge, first-side, split_face}
use Rattle.splitting.proofs.Split.{split-length, split-coordinate, control_manifold, start-cases}

module _ (S : Shape) (v : ℕ) (l : List ℕ) (ok : Oriented S v l) (p : ℕ → ℤ) (B : ℕ) (small : (x : ℕ) → x < v → nat_abs (p x) ≤ B) where
  midpoint_size : (h : ℕ) → h < length l → nat_abs (split_coordinate S v l p (v + edge S l h)) ≤ B
  unfolding to
  midpoint_size h k =
      let a = small (from l h) (ok.below h k) in
      let b = small (to S l h) (ok.below (S.next h) (ok.shape.next_lt h k)) in
      rw (split-edge S v l ok p h k) (round_within (p (from l h) +ℤ p (to S l h)) 2 B (omega arith) (omega (arith, abs-add (p (from l h)) (p (to S l h)))))

  mean_size : (f : ℕ) → f < S.faces (length l) → nat_abs (split_coordinate S v l p (v + edge_count S l + f)) ≤ B
  mean_size f k =
      let h : ℕ = first_side S l f in
      let b = (first-side S l ok.shape f k).lt in
      let g : ℕ → ℤ = λ i. p (from l (iterate S.next i h)) in
      rw (split_face S l ok.shape v p f k) (round_within (sum (S.sides h) g) (S.sides h) B (omega (arith, ok.shape.three h b))
      (abs-sum (S.sides h) g B (λ i c. small (from l (iterate S.next i h)) (ok.below (iterate S.next i h) (nexts_lt S (length l) ok.shape i h b)))))

  split_size : (i : ℕ) → i < refined_vertices S v l → nat_abs (split_coordinate S v l p i) ≤ B
  split_size = refined-cases S v l ok (λ i. nat_abs (split_coordinate S v l p i) ≤ B) (λ i b. rw (split_old S v l p i b) (small i b)) midpoint_size mean_size

-- ---- a net
module _ (m : ControlNet) (ok : WellFormed m) (B : ℕ) (t : Within B m.vertices) where
  pub split_within : Within B (split m).vertices
  unfolding axis
  split_within = record {
    at = λ i b.
        let n = split-length m in
        let c = split-coordinate m i (omega arith) in
        rw c (split_size (shape_of m.sides) (length m.marks) m.faces (control_manifold m ok).oriented (axis m.vertices (i % 3)) B
        (λ x k. let e = ok.threes in t.at (3 * x + i % 3) (omega arith)) (i / 3) (omega arith));
  }

  pub start_within : Within B (start_net m).vertices
  start_within = start-cases (λ s. Within B s.vertices) m (λ e. t) (λ b. split_within)
