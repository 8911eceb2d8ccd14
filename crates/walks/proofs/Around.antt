-- The ring or the fan of the vertex that a half-edge leaves.
use mathlib.Core.Path.{◌≡◌, refl, subst}
use mathlib.Core.List.{List}
use Prim.Native.Nat.{ℕ, ◌≤◌, ◌<◌}
use lib.ListN.{length}
use Rattle.topology.specs.Shape.{Shape}
use Rattle.topology.specs.HalfEdge.{from}
use Rattle.topology.specs.Boundary.{boundary_from}
use Rattle.topology.specs.Vertex.{valence, turns, start, Ring, Fan}
use Rattle.topology.specs.Manifold.{Manifold}
use Rattle.topology.proofs.Turn.{turns_listed}
use Rattle.topology.proofs.Rings.{ring_at, fan_not_back}
use Rattle.topology.proofs.Boundary.{start_open, ring_start, fan_start, ring_range, fan_range}

module _ (S : Shape) (v : ℕ) (l : List ℕ) (ok : Manifold S v l) (h : ℕ) (b : h < length l) where
  below : from l h < v
  below = ok.oriented.below h b

  -- where no boundary half-edge leaves the vertex of h, a ring from h
  pub ring_here : boundary_from S l (from l h) ≡ length l → Ring S l (from l h) h (valence l (from l h))
  ring_here e = ring_at S v l ok.oriented (from l h) (start S l (from l h)) (valence l (from l h)) (ring_start S v l ok (from l h) below e) h b refl

  pub ring_here_range : boundary_from S l (from l h) ≡ length l → (3 ≤ valence l (from l h)) × (valence l (from l h) ≤ 8)
  ring_here_range e = ring_range S v l ok (from l h) below e

  module _ (o : boundary_from S l (from l h) < length l) where
    abbrev s : ℕ
    s = boundary_from S l (from l h)

    -- where one does, a fan that starts with it
    pub fan_here : Fan S l (from l h) (boundary_from S l (from l h)) (valence l (from l h))
    fan_here = subst (λ (g : ℕ). Fan S l (from l h) g (valence l (from l h))) (start_open S l (from l h) o) (fan_start S v l ok (from l h) below o)

    pub fan_here_range : (0 < valence l (from l h)) × (valence l (from l h) ≤ 6)
    fan_here_range = fan_range S v l ok (from l h) below o

    -- in which no half-edge is met twice
    pub fan_differ : (i j : ℕ) → i < j → j < valence l (from l h) → turns S l i s ≡ turns S l j s → ⊥
    fan_differ i j a c e =
        (turns_listed S v l ok.oriented (from l h) s (valence l (from l h)) fan_here.walk.leaves fan_here.walk.inside
        (fan_not_back S v l ok.oriented (from l h) s (valence l (from l h)) fan_here)).differ i j a c e
