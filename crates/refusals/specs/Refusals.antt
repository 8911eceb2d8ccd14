-- Refusals 6 to 12, each as a test at a vertex p or at a half-edge h; the place is the lowest vertex, or the face of the lowest half-edge.
-- The net has v vertices, corners l in the shape S, and the list `marks` of marks.
use Rattle.std.specs.Prelude.{◌≡◌, Bool, cond, not, ◌&&◌, ◌||◌, List, ℕ, suc, ◌-◌, length, get_or, eqb, leb, ltb}
use Rattle.bounds.specs.Bounds.{min_ring, max_ring, max_fan}
use Rattle.search.specs.Search.{first, any, iterate}
use Rattle.topology.specs.Shape.{Shape}
use Rattle.topology.specs.HalfEdge.{from, to}
use Rattle.topology.specs.Boundary.{boundary_from}
use Rattle.topology.specs.Vertex.{leaves, valence, start, faces_met}

-- 6: "a mark above 1; vertex."
unfoldable pub bad_mark : List ℕ → ℕ → Bool
bad_mark marks p = ltb 1 (get_or marks p 0)

-- 7: "a corner not below V, or two equal corners in a face; face."
unfoldable pub bad_corner : Shape → ℕ → List ℕ → ℕ → Bool
bad_corner S v l h = leb v (from l h) || any (λ (k : ℕ). eqb (from l (iterate S.next (suc k) h)) (from l h)) (S.sides h - 1)

-- 8: "a vertex in no face; vertex."
unfoldable pub isolated : List ℕ → ℕ → Bool
isolated l p = not (any (leaves l p) (length l))

-- 9: "a side running from one vertex to another as a side of an earlier face does; face."
unfoldable pub repeated_side : Shape → List ℕ → ℕ → Bool
repeated_side S l h = any (λ (g : ℕ). ltb (S.face g) (S.face h) && (eqb (from l g) (from l h) && eqb (to S l g) (to S l h))) (length l)

-- 10: "the faces at a vertex form neither one full ring nor one open fan; vertex.": turning round p does not meet all faces at p
unfoldable pub non_manifold : Shape → List ℕ → ℕ → Bool
non_manifold S l p = not (eqb (faces_met S l (start S l p)) (valence l p))

-- 11: "a ring of fewer than 3 or more than 8 faces, or a fan of more than 6; vertex."
unfoldable pub bad_valence : Shape → List ℕ → ℕ → Bool
bad_valence S l p = cond (ltb (boundary_from S l p) (length l)) (ltb max_fan (valence l p)) (ltb (valence l p) min_ring || ltb max_ring (valence l p))

-- 12: "mark 1 on a vertex with a full ring; vertex."
unfoldable pub marked_ring : Shape → List ℕ → List ℕ → ℕ → Bool
marked_ring S l marks p = eqb (get_or marks p 0) 1 && eqb (boundary_from S l p) (length l)

-- 7 to 11 hold nowhere
pub record Unrefused (S : Shape) (v : ℕ) (l : List ℕ) : Type 0 where
  pub no7 : first (bad_corner S v l) (length l) ≡ length l
  pub no8 : first (isolated l) v ≡ v
  pub no9 : first (repeated_side S l) (length l) ≡ length l
  pub no10 : first (non_manifold S l) v ≡ v
  pub no11 : first (bad_valence S l) v ≡ v
