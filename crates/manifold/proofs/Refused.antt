-- Refusals 11 and 12 at a vertex, by cases.
use mathlib.Core.Path.{◌≡◌, ◌∙◌}
use mathlib.Core.Bool.{true, false, not}
use mathlib.Core.List.{List}
use Prim.Native.Nat.{ℕ, ◌≤◌, ◌<◌}
use native.Mathlib.Decide.{dec_lt}
use native.Mathlib.Omega.{arith}
use lib.ListN.{length, get_or}
use lib.Dec.{eqb, ltb}
use borrow.Author.Tests.{lt-ltb, le-ltb, eq-eqb, ne_eqb}
use Rattle.bounds.specs.Bounds.{min_ring, max_ring}
use Rattle.topology.specs.Shape.{Shape}
use Rattle.topology.specs.Boundary.{boundary_from}
use Rattle.topology.specs.Vertex.{valence}
use Rattle.topology.proofs.Boundary.{boundary_from-le}
use Rattle.refusals.specs.Refusals.{marked_ring, bad_valence}
use Rattle.refusals.proofs.Manifold.{bad_valence_ring}

module _ (S : Shape) (l : List ℕ) (p : ℕ) where
  pub ring_few : boundary_from S l p ≡ length l → valence l p < 3 → bad_valence S l p ≡ true
  ring_few b h = let t = lt-ltb (valence l p) min_ring h in bad_valence_ring S l p b ∙ (rw t)

  pub ring_many : boundary_from S l p ≡ length l → min_ring ≤ valence l p → bad_valence S l p ≡ ltb max_ring (valence l p)
  ring_many b h = let t = le-ltb (valence l p) min_ring h in bad_valence_ring S l p b ∙ (rw t)

  pub marked_on : (marks : List ℕ) → get_or marks p 0 ≡ 1 → marked_ring S l marks p ≡ eqb (boundary_from S l p) (length l)
  unfolding marked_ring
  marked_on marks e = let t = eq-eqb (get_or marks p 0) 1 e in rw t

  pub marked_off : (marks : List ℕ) → (get_or marks p 0 ≡ 1 → ⊥) → marked_ring S l marks p ≡ false
  unfolding marked_ring
  marked_off marks e = let t = ne_eqb (get_or marks p 0) 1 e in rw t

  -- none leaves p
  pub closed : not (ltb (boundary_from S l p) (length l)) ≡ eqb (boundary_from S l p) (length l)
  closed = go (dec_lt (boundary_from S l p) (length l))
    where
      go : Dec (boundary_from S l p < length l) → not (ltb (boundary_from S l p) (length l)) ≡ eqb (boundary_from S l p) (length l)
      go (yes b) = let t = lt-ltb (boundary_from S l p) (length l) b in let u = ne_eqb (boundary_from S l p) (length l) (λ e. let z : ⊥ = omega arith in z) in rw (t, u)
      go (no b) = let i = boundary_from-le S l p in let t = le-ltb (boundary_from S l p) (length l) (omega arith) in let u = eq-eqb (boundary_from S l p) (length l) (omega arith) in rw (t, u)
