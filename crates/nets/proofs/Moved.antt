-- Laws of a moved net. Assumes nothing.
use mathlib.Core.Path.{◌≡◌, sym, ap, ◌∙◌}
use mathlib.Core.List.{List}
use Prim.Native.Nat.{ℕ, ◌+◌, ◌*◌, ◌/◌, ◌%◌, ◌<◌}
use native.Mathlib.Omega.{arith}
use lib.IntN.{ℤ, pos, ◌+ℤ◌}
use lib.ListN.{length, get_or}
use Rattle.lists.specs.Tabulate.{tabulate}
use Rattle.lists.proofs.Tabulate.{length-tabulate, get_or-tabulate, tabulate_cong}
use Rattle.curve.specs.Curve.{Point}
use Rattle.nets.specs.Net.{axis}
use Rattle.nets.specs.Moved.{on_axis, moved_vertices}

module _ (s : Point) where
  pub moved_length : (vs : List ℤ) → length (moved_vertices s vs) ≡ length vs
  unfolding moved_vertices
  moved_length vs = length-tabulate (length vs) (λ (i : ℕ). get_or vs i (pos 0) +ℤ on_axis s (i % 3))

  moved_at : (vs : List ℤ) (i : ℕ) → i < length vs → get_or (moved_vertices s vs) i (pos 0) ≡ get_or vs i (pos 0) +ℤ on_axis s (i % 3)
  unfolding moved_vertices
  moved_at vs i h = get_or-tabulate (length vs) (λ (j : ℕ). get_or vs j (pos 0) +ℤ on_axis s (j % 3)) i (pos 0) h

  -- a vertex of the table, on an axis
  pub axis-moved : (vs : List ℤ) (a v : ℕ) → a < 3 → 3 * v + a < length vs → axis (moved_vertices s vs) a v ≡ axis vs a v +ℤ on_axis s a
  unfolding axis
  axis-moved vs a v b h =
      let e : (3 * v + a) % 3 ≡ a = omega arith in
      moved_at vs (3 * v + a) h ∙ ap (λ (t : ℕ). get_or vs (3 * v + a) (pos 0) +ℤ on_axis s t) e

  -- a table given by its numbers
  moved-tabulate : (n : ℕ) (f : ℕ → ℤ) → moved_vertices s (tabulate n f) ≡ tabulate n (λ (i : ℕ). f i +ℤ on_axis s (i % 3))
  unfolding moved_vertices
  moved-tabulate n f =
      ap (λ (t : ℕ). tabulate t (λ (i : ℕ). get_or (tabulate n f) i (pos 0) +ℤ on_axis s (i % 3))) (length-tabulate n f)
      ∙ tabulate_cong n (λ (i : ℕ). get_or (tabulate n f) i (pos 0) +ℤ on_axis s (i % 3)) (λ (i : ℕ). f i +ℤ on_axis s (i % 3))
      (λ i h. ap (λ (z : ℤ). z +ℤ on_axis s (i % 3)) (get_or-tabulate n f i (pos 0) h))

  -- a table that holds a coordinate f of each of n vertices, on every axis: if moving the vertices that f is made from moves it alike, the table is moved
  pub moved_coordinates : (n : ℕ) (vs : List ℤ) (f : (ℕ → ℤ) → ℕ → ℤ)
      → ((a i : ℕ) → a < 3 → i < n → f (axis (moved_vertices s vs) a) i ≡ f (axis vs a) i +ℤ on_axis s a)
      → tabulate (3 * n) (λ (i : ℕ). f (axis (moved_vertices s vs) (i % 3)) (i / 3)) ≡ moved_vertices s (tabulate (3 * n) (λ (i : ℕ). f (axis vs (i % 3)) (i / 3)))
  moved_coordinates n vs f h =
      tabulate_cong (3 * n) (λ (i : ℕ). f (axis (moved_vertices s vs) (i % 3)) (i / 3)) (λ (i : ℕ). f (axis vs (i % 3)) (i / 3) +ℤ on_axis s (i % 3)) (λ i b. h (i % 3) (i / 3) (omega arith) (omega arith))
      ∙ sym (moved-tabulate (3 * n) (λ (i : ℕ). f (axis vs (i % 3)) (i / 3)))
