-- The refined net of a manifold net is manifold: refusals 7 to 11 hold nowhere in it, after any number of rounds.
use mathlib.Core.Path.{◌≡◌, sym, ◌∙◌, subst}
use mathlib.Core.List.{List}
use Prim.Native.Nat.{ℕ, ◌^◌, zero, suc, ◌+◌, ◌-◌, ◌*◌, ◌%◌, ◌≤◌, ◌<◌}
use native.Mathlib.Decide.{dec_lt}
use native.Mathlib.Omega.{arith}
use lib.ListN.{length}
use Rattle.topology.specs.Shape.{Shape, Lawful, quads}
use Rattle.topology.specs.HalfEdge.{mate, edge_count, edge}
use Rattle.topology.specs.Boundary.{OnBoundary}
use Rattle.topology.specs.Vertex.{valence, Ring, Fan}
use Rattle.topology.specs.Manifold.{Around, ring, fan, Manifold}
use Rattle.topology.proofs.Mates.{mate-le, edge_onto}
use Rattle.topology.proofs.Shape.{quads_lawful}
use Rattle.topology.proofs.Rings.{ring_valence, fan_valence}
use Rattle.refusals.specs.Refusals.{Unrefused}
use Rattle.refusals.proofs.Manifold.{manifold_if, unrefused_if}
use Rattle.refinedfaces.specs.Refined.{refined_vertices, refined, vertices_after, corners_after}
use Rattle.refinedfaces.proofs.Corners.{length-refined, oriented_refined}
use Rattle.refinedfaces.proofs.Rings.{ring_refined, fan_refined, edge_ring, edge_fan, face_ring}

module _ (S : Shape) (v : ℕ) (l : List ℕ) (ok : Manifold S v l) where
  old : (p : ℕ) → p < v → Around S l p → Around quads (refined S v l) p
  old p b (ring h m s t r) = ring (4 * h) m s t (ring_refined S v l ok.oriented p h m b r)
  old p b (fan h m t r) = fan (4 * h) m t (fan_refined S v l ok.oriented p h m b r)

  on_edge_lem : (h : ℕ) → h < length l → Dec (mate S l h < length l) → Around quads (refined S v l) (v + edge S l h)
  on_edge_lem h a (yes m) = ring (4 * h + 1) 4 (omega arith) (omega arith) (edge_ring S v l ok.oriented h a m)
  on_edge_lem h a (no m) = fan (4 * S.next h + 3) 2 (omega arith) (edge_fan S v l ok.oriented h a (omega (arith, mate-le S l h)))

  where_is : (p : ℕ) → p < refined_vertices S v l → Dec (p < v) → Dec (p < v + edge_count S l) → Around quads (refined S v l) p
  where_is p b (yes c) d = old p c (ok.around p c)
  where_is p b (no c) (yes d) =
      let r = edge_onto S v l ok.oriented (p - v) (omega arith) in
      let e : v + edge S l r.0 ≡ p = omega arith in
      subst (Around quads (refined S v l)) e (on_edge_lem r.0 r.1 (dec_lt (mate S l r.0) (length l)))
  where_is p b (no c) (no d) =
      let r = ok.oriented.shape.face_onto (p - (v + edge_count S l)) (omega arith) in
      let e : v + edge_count S l + S.face r.0 ≡ p = omega arith in
      let w = ok.oriented.shape in
      subst (Around quads (refined S v l)) e (ring (4 * r.0 + 2) (S.sides r.0) (w.three r.0 r.1) (w.eight r.0 r.1) (face_ring S v l ok.oriented r.0 r.1))

  -- the refined net of a manifold net is manifold
  pub manifold_refined : Manifold quads (refined_vertices S v l) (refined S v l)
  manifold_refined = record {
    oriented = oriented_refined S v l ok.oriented;
    around = λ p b. where_is p b (dec_lt p v) (dec_lt p (v + edge_count S l));
  }

  -- ---- how many faces there are at each of its vertices

  refined_ring : (p h m : ℕ) → Ring quads (refined S v l) p h m → valence (refined S v l) p ≡ m
  refined_ring = ring_valence quads (refined_vertices S v l) (refined S v l) (oriented_refined S v l ok.oriented)

  refined_fan : (p h m : ℕ) → Fan quads (refined S v l) p h m → valence (refined S v l) p ≡ m
  refined_fan = fan_valence quads (refined_vertices S v l) (refined S v l) (oriented_refined S v l ok.oriented)

  pub valence_old : (p : ℕ) → p < v → valence (refined S v l) p ≡ valence l p
  valence_old p b = go (ok.around p b)
    where
      go : Around S l p → valence (refined S v l) p ≡ valence l p
      go (ring h m s t r) = refined_ring p (4 * h) m (ring_refined S v l ok.oriented p h m b r) ∙ sym (ring_valence S v l ok.oriented p h m r)
      go (fan h m t r) = refined_fan p (4 * h) m (fan_refined S v l ok.oriented p h m b r) ∙ sym (fan_valence S v l ok.oriented p h m r)

  pub valence-inner : (h : ℕ) → h < length l → mate S l h < length l → valence (refined S v l) (v + edge S l h) ≡ 4
  valence-inner h a m = refined_ring (v + edge S l h) (4 * h + 1) 4 (edge_ring S v l ok.oriented h a m)

  pub valence_boundary : (h : ℕ) → OnBoundary S l h → valence (refined S v l) (v + edge S l h) ≡ 2
  valence_boundary h o = refined_fan (v + edge S l h) (4 * S.next h + 3) 2 (edge_fan S v l ok.oriented h o.lt o.none)

  pub valence_face : (h : ℕ) → h < length l → valence (refined S v l) (v + edge_count S l + S.face h) ≡ S.sides h
  valence_face h a = refined_ring (v + edge_count S l + S.face h) (4 * h + 2) (S.sides h) (face_ring S v l ok.oriented h a)

-- ---- refusals 7 to 11

pub unrefused_refined : (S : Shape) (v : ℕ) (l : List ℕ) → Lawful S (length l) → Unrefused S v l → Unrefused quads (refined_vertices S v l) (refined S v l)
unrefused_refined S v l w u = unrefused_if quads (refined_vertices S v l) (refined S v l) (manifold_refined S v l (manifold_if S v l w u))

-- ---- counts

-- four refined faces for each face
quads-refined : (v : ℕ) (l : List ℕ) → length l % 4 ≡ 0 → quads.faces (length (refined quads v l)) ≡ 4 * quads.faces (length l)
unfolding quads
quads-refined v l w = let n = length-refined quads v l in omega arith

-- ---- any number of rounds

module _ (v : ℕ) (l : List ℕ) where
  whole_after : length l % 4 ≡ 0 → (k : ℕ) → length (corners_after k v l) % 4 ≡ 0
  unfolding corners_after
  whole_after w zero = w
  whole_after w (suc k) = let e = length-refined quads (vertices_after k v l) (corners_after k v l) in omega arith

  -- "After k rounds there are F × 4^k faces"
  pub faces_after : length l % 4 ≡ 0 → (k : ℕ) → quads.faces (length (corners_after k v l)) ≡ 4 ^ k * quads.faces (length l)
  unfolding corners_after
  faces_after w zero = omega arith
  faces_after w (suc k) =
      let e = quads-refined (vertices_after k v l) (corners_after k v l) (whole_after w k) in
      let i = faces_after w k in
      let p : 4 ^ suc k ≡ 4 * 4 ^ k = omega arith in
      rw p (omega arith)

  pub manifold_after : Manifold quads v l → (k : ℕ) → Manifold quads (vertices_after k v l) (corners_after k v l)
  unfolding vertices_after corners_after
  manifold_after ok zero = ok
  manifold_after ok (suc k) = manifold_refined quads (vertices_after k v l) (corners_after k v l) (manifold_after ok k)

  pub unrefused_after : length l % 4 ≡ 0 → Unrefused quads v l → (k : ℕ) → Unrefused quads (vertices_after k v l) (corners_after k v l)
  unrefused_after w u k = unrefused_if quads (vertices_after k v l) (corners_after k v l) (manifold_after (manifold_if quads v l (quads_lawful (length l) w) u) k)

  -- old vertices keep their numbers
  pub vertices_after_ge : (k : ℕ) → v ≤ vertices_after k v l
  unfolding vertices_after
  vertices_after_ge zero = omega arith
  vertices_after_ge (suc k) = let i = vertices_after_ge k in omega arith
