-- The split moves with the net: a net moved by whole numbers and split is the split net, moved.
use mathlib.Core.Path.{◌≡◌, refl, sym, ap, ap₂, ◌∙◌}
use mathlib.Core.List.{List, [], ◌∷◌}
use Prim.Native.Nat.{ℕ, ◌+◌, ◌<◌}
use native.Mathlib.Omega.{arith}
use lib.IntN.{ℤ, pos, ◌+ℤ◌, ◌*ℤ◌}
use lib.ListN.{length}
use Rattle.integers.specs.Sum.{sum}
use Rattle.integers.proofs.Polynomial.{var, lit, ◌⊞◌, ◌⊠◌, same}
use Rattle.integers.proofs.Sum.{sum_cong, sum-add, sum_const}
use Rattle.search.specs.Search.{iterate}
use Rattle.rounding.specs.Rounding.{round}
use Rattle.rounding.proofs.Laws.{round_shift}
use Rattle.curve.specs.Curve.{Point}
use Rattle.topology.specs.Shape.{Shape}
use Rattle.topology.specs.HalfEdge.{from, to, edge_count, edge}
use Rattle.topology.specs.Manifold.{Oriented}
use Rattle.topology.proofs.Shape.{nexts_lt}
use Rattle.polygons.specs.Polygons.{shape_of}
use Rattle.refinedfaces.specs.Refined.{refined_vertices}
use Rattle.refinedfaces.proofs.Corners.{refined-cases}
use Rattle.nets.specs.Net.{ControlNet, axis}
use Rattle.nets.specs.Moved.{on_axis, moved_vertices, moved, moved_control}
use Rattle.nets.proofs.Laws.{same-net}
use Rattle.nets.proofs.Moved.{axis-moved, moved_coordinates}
use Rattle.splitting.specs.Splitting.{first_side, split_coordinate, split, start_net}
use Rattle.splitting.specs.WellFormed.{WellFormed}
use Rattle.splitting.proofs.Coordinates.{split_old, split-edge, first-side, split_face}
use Rattle.splitting.proofs.Split.{control_manifold, start-cases, start_none, start-split}

-- the sum of n numbers, each moved by c
sum_moved : (n : ℕ) (f g : ℕ → ℤ) (c : ℤ) → ((k : ℕ) → k < n → g k ≡ f k +ℤ c) → sum n g ≡ sum n f +ℤ pos n *ℤ c
sum_moved n f g c h = sum_cong n g (λ (k : ℕ). f k +ℤ c) h ∙ sum-add n f (λ (k : ℕ). c) ∙ ap (λ (t : ℤ). sum n f +ℤ t) (sum_const n c)

-- ---- one coordinate
module _ (S : Shape) (v : ℕ) (l : List ℕ) (ok : Oriented S v l) (p q : ℕ → ℤ) (c : ℤ) (moves : (x : ℕ) → x < v → q x ≡ p x +ℤ c) where
  midpoint-moved : (h : ℕ) → h < length l → split_coordinate S v l q (v + edge S l h) ≡ split_coordinate S v l p (v + edge S l h) +ℤ c
  unfolding to
  midpoint-moved h k =
      let a : ℤ = p (from l h) in
      let b : ℤ = p (from l (S.next h)) in
      split-edge S v l ok q h k
      ∙ ap₂ (λ (x y : ℤ). round (x +ℤ y) 2) (moves (from l h) (ok.below h k)) (moves (from l (S.next h)) (ok.below (S.next h) (ok.shape.next_lt h k)))
      ∙ ap (λ (z : ℤ). round z 2) (same ((var 0 ⊞ var 2) ⊞ (var 1 ⊞ var 2)) ((var 0 ⊞ var 1) ⊞ lit (pos 2) ⊠ var 2) (a ∷ b ∷ c ∷ []) refl)
      ∙ round_shift (a +ℤ b) c 2 (omega arith)
      ∙ ap (λ (z : ℤ). z +ℤ c) (sym (split-edge S v l ok p h k))

  mean_moved : (f : ℕ) → f < S.faces (length l) → split_coordinate S v l q (v + edge_count S l + f) ≡ split_coordinate S v l p (v + edge_count S l + f) +ℤ c
  mean_moved f k =
      let h : ℕ = first_side S l f in
      let b = (first-side S l ok.shape f k).lt in
      let n : ℕ = S.sides h in
      let at : (ℕ → ℤ) → ℕ → ℤ = λ r i. r (from l (iterate S.next i h)) in
      split_face S l ok.shape v q f k
      ∙ ap (λ (z : ℤ). round z n) (sum_moved n (at p) (at q) c (λ i j. moves (from l (iterate S.next i h)) (ok.below (iterate S.next i h) (nexts_lt S (length l) ok.shape i h b))))
      ∙ round_shift (sum n (at p)) c n (omega (arith, ok.shape.three h b))
      ∙ ap (λ (z : ℤ). z +ℤ c) (sym (split_face S l ok.shape v p f k))

  split-coordinate-moved : (i : ℕ) → i < refined_vertices S v l → split_coordinate S v l q i ≡ split_coordinate S v l p i +ℤ c
  split-coordinate-moved = refined-cases S v l ok (λ i. split_coordinate S v l q i ≡ split_coordinate S v l p i +ℤ c)
      (λ i b. split_old S v l q i b ∙ moves i b ∙ ap (λ (z : ℤ). z +ℤ c) (sym (split_old S v l p i b))) midpoint-moved mean_moved

-- ---- a net
module _ (s : Point) (m : ControlNet) (ok : WellFormed m) where
  split-moved : split (moved_control s m) ≡ moved s (split m)
  unfolding split
  split-moved =
      let S : Shape = shape_of m.sides in
      let v : ℕ = length m.marks in
      let t = ok.threes in
      same-net (moved_coordinates s (refined_vertices S v m.faces) m.vertices (split_coordinate S v m.faces)
      (λ a i b j. split-coordinate-moved S v m.faces (control_manifold m ok).oriented (axis m.vertices a) (axis (moved_vertices s m.vertices) a) (on_axis s a)
      (λ x k. axis-moved s m.vertices a x b (omega arith)) i j)) refl refl

  pub start-moved : start_net (moved_control s m) ≡ moved s (start_net m)
  start-moved = start-cases (λ n. start_net (moved_control s m) ≡ moved s n) m (λ e. start_none (moved_control s m) e) (λ b. start-split (moved_control s m) b ∙ split-moved)
