-- Which vertices are ordinary, without a walk. Every vertex that a round makes is; an old vertex is after the round if it was before. And at an ordinary vertex one
-- mate tells the two kinds apart, and where the neighbour straight across is found. Assumes a manifold net.
use mathlib.Core.Path.{◌≡◌, refl, sym, ap, ◌∙◌, subst}
use mathlib.Core.Bool.{cond}
use mathlib.Core.List.{List}
use Prim.Native.Nat.{ℕ, zero, suc, ◌+◌, ◌*◌, ◌≤◌, ◌<◌}
use native.Mathlib.Decide.{dec_lt}
use native.Mathlib.Omega.{arith}
use lib.Dec.{ltb, lit≤}
use lib.IntN.{ℤ}
use lib.ListN.{length}
use borrow.Author.Tests.{lt-ltb, le-ltb}
use Rattle.search.specs.Search.{iterate}
use Rattle.curve.specs.Weights.{mirror}
use Rattle.topology.specs.Shape.{quads}
use Rattle.topology.specs.HalfEdge.{from, to, mate, edge_count, edge}
use Rattle.topology.specs.Boundary.{boundary_from}
use Rattle.topology.specs.Vertex.{valence, turn, turns, Ring, Fan}
use Rattle.topology.specs.Manifold.{Oriented, Around, ring, fan, Manifold}
use Rattle.topology.proofs.Mates.{mate-le}
use Rattle.topology.proofs.Turn.{turn_to}
use Rattle.topology.proofs.Rings.{ring_valence, ring_turns, fan_valence}
use Rattle.topology.proofs.Boundary.{ring_boundary_from, fan_boundary_from}
use Rattle.refinedfaces.specs.Refined.{refined_vertices, refined, vertices_after, corners_after}
use Rattle.refinedfaces.proofs.Corners.{length-refined, oriented_refined}
use Rattle.refinedfaces.proofs.Rings.{ring_refined, fan_refined, edge_ring, edge_fan, face_ring}
use Rattle.refinedfaces.proofs.Manifold.{valence_old, manifold_after}
use Rattle.topology.specs.Quads.{fan_place}
use Rattle.schemelaws.specs.Ordinary.{Ordinary, ring_of_four, fan_of_two, straight}
use Rattle.schemelaws.proofs.Vertices.{ring_of_lem, fan_at, place_at, place_inner}
use Rattle.refinedfaces.proofs.Corners.{refined-cases}

-- ---- of a ring and of a fan
module _ (v : ℕ) (l : List ℕ) (ok : Oriented quads v l) (q h : ℕ) where
  ordinary_ring : Ring quads l q h 4 → Ordinary l q
  ordinary_ring r = ring_of_four (ring_boundary_from quads v l ok q h 4 r) (ring_valence quads v l ok q h 4 r)

  ordinary_fan : Fan quads l q h 2 → Ordinary l q
  unfolding iterate
  ordinary_fan r = fan_of_two (let e = fan_boundary_from quads v l ok q h 2 r in let k = r.walk.inside 0 r.some in omega arith) (fan_valence quads v l ok q h 2 r)

-- ---- after a round
module _ (v : ℕ) (l : List ℕ) (ok : Manifold quads v l) where
  abbrev L : List ℕ
  L = refined quads v l

  fine : Oriented quads (refined_vertices quads v l) L
  fine = oriented_refined quads v l ok.oriented

  made_face : (h : ℕ) → h < length l → Ring quads L (v + edge_count quads l + quads.face h) (4 * h + 2) 4
  unfolding quads
  made_face h k = face_ring quads v l ok.oriented h k

  -- a vertex that the round made
  pub made_ordinary : (i : ℕ) → v ≤ i → i < refined_vertices quads v l → Ordinary L i
  made_ordinary i a b =
      refined-cases quads v l ok.oriented (λ (j : ℕ). v ≤ j → Ordinary L j)
      (λ j c d. let z : ⊥ = omega arith in absurd z)
      (λ h k d. side h k (dec_lt (mate quads l h) (length l)))
      (λ f k d. let x = ok.oriented.shape.face_onto f k in subst (λ (g : ℕ). Ordinary L (v + edge_count quads l + g)) x.2 (ordinary_ring (refined_vertices quads v l) L fine _ _ (made_face x.0 x.1)))
      i b a
    where
      side : (h : ℕ) → h < length l → Dec (mate quads l h < length l) → Ordinary L (v + edge quads l h)
      side h k (yes m) = ordinary_ring (refined_vertices quads v l) L fine _ _ (edge_ring quads v l ok.oriented h k m)
      side h k (no m) = ordinary_fan (refined_vertices quads v l) L fine _ _ (edge_fan quads v l ok.oriented h k (omega (arith, mate-le quads l h)))

  -- an old vertex: its boundary half-edge, or none, moves with the numbers
  boundary_from_old : (q : ℕ) → q < v → boundary_from quads L q ≡ 4 * boundary_from quads l q
  boundary_from_old q b = go (ok.around q b)
    where
      go : Around quads l q → boundary_from quads (refined quads v l) q ≡ 4 * boundary_from quads l q
      go (ring h m s t r) =
          let e = ring_boundary_from quads (refined_vertices quads v l) L fine q (4 * h) m (ring_refined quads v l ok.oriented q h m b r) in
          let f = ring_boundary_from quads v l ok.oriented q h m r in
          let n = length-refined quads v l in
          omega arith
      go (fan h m t r) =
          let e = fan_boundary_from quads (refined_vertices quads v l) L fine q (4 * h) m (fan_refined quads v l ok.oriented q h m b r) in
          let f = fan_boundary_from quads v l ok.oriented q h m r in
          omega arith

  pub old_ordinary : (q : ℕ) → q < v → Ordinary l q → Ordinary L q
  old_ordinary q b (ring_of_four e n) = let x = boundary_from_old q b in let y = length-refined quads v l in ring_of_four (omega arith) (valence_old quads v l ok q b ∙ n)
  old_ordinary q b (fan_of_two e n) = let x = boundary_from_old q b in let y = length-refined quads v l in fan_of_two (omega arith) (valence_old quads v l ok q b ∙ n)

  pub ordinary_old : (q : ℕ) → q < v → Ordinary L q → Ordinary l q
  ordinary_old q b (ring_of_four e n) = let x = boundary_from_old q b in let y = length-refined quads v l in ring_of_four (omega arith) (sym (valence_old quads v l ok q b) ∙ n)
  ordinary_old q b (fan_of_two e n) = let x = boundary_from_old q b in let y = length-refined quads v l in fan_of_two (omega arith) (sym (valence_old quads v l ok q b) ∙ n)

-- ---- after any number of rounds: one class for each vertex of the first net is enough
module _ (v : ℕ) (l : List ℕ) (ok : Manifold quads v l) where
  pub made_after : (k i : ℕ) → v ≤ i → i < vertices_after k v l → Ordinary (corners_after k v l) i
  unfolding vertices_after corners_after
  made_after zero i a b = let z : ⊥ = omega arith in absurd z
  made_after (suc k) i a b = go (λ c. made_after k i a c) (dec_lt i (vertices_after k v l))
    where
      go : (i < vertices_after k v l → Ordinary (corners_after k v l) i) → Dec (i < vertices_after k v l) → Ordinary (refined quads (vertices_after k v l) (corners_after k v l)) i
      go f (yes c) = old_ordinary (vertices_after k v l) (corners_after k v l) (manifold_after v l ok k) i c (f c)
      go f (no c) = made_ordinary (vertices_after k v l) (corners_after k v l) (manifold_after v l ok k) i (omega arith) b

-- ---- one mate tells: that of the side before an inner half-edge h, which is the turn of h
module _ (v : ℕ) (l : List ℕ) (ok : Manifold quads v l) (h : ℕ) (k : h < length l) (m : mate quads l h < length l) where
  -- an inner half-edge that leaves a fan of two is its last
  fan_ends : boundary_from quads l (from l h) < length l → valence l (from l h) ≡ 2 → turn quads l h ≡ length l
  unfolding iterate
  fan_ends b two =
      let P : ℕ = from l h in
      let s : ℕ = boundary_from quads l P in
      let x = place_at v l ok P b h k refl in
      let i = x.0 in
      let j = place_inner v l ok P b h k refl m in
      let e : fan_place l P h ≡ 1 = omega arith in
      let t : turn quads l s ≡ h = subst (λ (n : ℕ). turns quads l n s ≡ h) e x.1 in
      ap (turn quads l) (sym t) ∙ subst (λ (n : ℕ). turns quads l n s ≡ length l) two (fan_at v l ok P b).ends

  ring_goes_on : boundary_from quads l (from l h) ≡ length l → turn quads l h < length l
  ring_goes_on b =
      let n : ℕ = valence l (from l h) in
      ring_turns quads v l ok.oriented (from l h) h n (ring_of_lem v l ok h k (omega arith)) h k refl

  pub turn_ring : Ordinary l (from l h) → turn quads l h < length l → (boundary_from quads l (from l h) ≡ length l) × (valence l (from l h) ≡ 4)
  turn_ring (ring_of_four b n) t = (b, n)
  turn_ring (fan_of_two b n) t = let e = fan_ends b n in let z : ⊥ = omega arith in absurd z

  -- so what the code reads: with g the mate of the side before h, the start of the side before g, or Q mirrored at P if there is no g
  pub straight_read : (p : ℕ → ℤ) → Ordinary l (from l h)
      → straight l p h ≡ cond (ltb (mate quads l (quads.prev h)) (length l)) (p (from l (quads.prev (mate quads l (quads.prev h))))) (mirror (p (from l h)) (p (to quads l h)))
  unfolding straight turn iterate
  straight_read p (ring_of_four b n) =
      let a = le-ltb (boundary_from quads l (from l h)) (length l) (omega arith) in
      let t : mate quads l (quads.prev h) < length l = ring_goes_on b in
      let c = lt-ltb (mate quads l (quads.prev h)) (length l) t in
      let r : Ring quads l (from l h) h 4 = subst (Ring quads l (from l h) h) n (ring_of_lem v l ok h k (omega arith)) in
      rw (a, c) (ap p (turn_to quads v l ok.oriented (turn quads l h) (r.walk.inside 2 (lit≤ tt))))
  straight_read p (fan_of_two b n) =
      let a = lt-ltb (boundary_from quads l (from l h)) (length l) b in
      let t : mate quads l (quads.prev h) ≡ length l = fan_ends b n in
      let c = le-ltb (mate quads l (quads.prev h)) (length l) (omega arith) in
      rw (a, c)
