-- A ring of more than eight faces gets refusal 11, whatever their number. Assumes nothing.
use mathlib.Core.Path.{◌≡◌, refl, sym, ◌∙◌}
use mathlib.Core.Bool.{true}
use mathlib.Core.List.{List}
use Prim.Native.Nat.{ℕ, ◌/◌, ◌<◌}
use native.Mathlib.Omega.{arith}
use lib.Dec.{ltb}
use lib.ListN.{length}
use borrow.Author.Tests.{lt-ltb}
use Rattle.bounds.specs.Bounds.{min_ring, max_ring}
use Rattle.search.specs.Search.{first}
use Rattle.search.proofs.First.{first_reach}
use Rattle.search.proofs.Tests.{or_on}
use Rattle.topology.specs.Shape.{Shape}
use Rattle.topology.specs.Vertex.{valence, Ring}
use Rattle.topology.specs.Manifold.{Oriented}
use Rattle.topology.proofs.Rings.{ring_valence}
use Rattle.topology.proofs.Boundary.{ring_boundary_from}
use Rattle.polygons.specs.Polygons.{shape_of}
use Rattle.polygons.proofs.Counts.{shape_lawful}
use Rattle.refusals.specs.Refusals.{bad_mark, bad_corner, isolated, repeated_side, non_manifold, bad_valence}
use Rattle.refusals.proofs.Oriented.{oriented_if}
use Rattle.refusals.proofs.Manifold.{bad_valence_ring}
use Rattle.verdict.specs.Call.{Call, lengths_of}
use Rattle.verdict.specs.Verdict.{refused, bad_coordinate, coordinates_verdict, vertex_verdict, adjacency_verdict, faces_verdict, shape_verdict, net_verdict, verdict}
use Rattle.verdict.specs.LargeRing.{NoneBefore11, LargeRing}
use Rattle.verdict.proofs.Accepted.{call_both, within_if, at_hit, at_pass}

-- 11 holds at a full ring of more than eight faces
ring_bad : (S : Shape) (v : ℕ) (l : List ℕ) → Oriented S v l → (p h m : ℕ) → Ring S l p h m → max_ring < m → bad_valence S l p ≡ true
ring_bad S v l ok p h m r k =
    let e = ring_valence S v l ok p h m r in
    bad_valence_ring S l p (ring_boundary_from S v l ok p h m r) ∙ or_on (ltb (valence l p) min_ring) (ltb max_ring (valence l p)) (lt-ltb max_ring (valence l p) (omega arith))

module _ (c : Call) (n : NoneBefore11 c) where
  abbrev S : Shape
  S = shape_of c.net.sides

  abbrev v : ℕ
  v = length c.net.marks

  abbrev l : List ℕ
  l = c.net.faces

  oriented : Oriented S v l
  oriented = oriented_if S v l (shape_lawful c.net.sides (length l) (within_if c.rounds c.net.sides (lengths_of c.net c.room) (call_both c n.call).0).sided) n.net.no7 n.net.no9

  -- the first vertex where 11 holds is the place
  gets_11 : first (bad_valence S l) v < v → refused 11 (first (bad_valence S l) v) ≡ verdict c
  unfolding verdict net_verdict coordinates_verdict shape_verdict faces_verdict adjacency_verdict vertex_verdict
  gets_11 b =
      let none = n.call in
      rw none
      (at_pass 5 (bad_coordinate c.net.vertices) (length c.net.vertices) (λ i. i / 3) _ _ _ refl (omega (arith, n.net.no5))
      (at_pass 6 (bad_mark c.net.marks) v (λ p. p) _ _ _ refl (omega (arith, n.net.no6))
      (at_pass 7 (bad_corner S v l) (length l) S.face _ _ _ refl (omega (arith, n.net.no7))
      (at_pass 8 (isolated l) v (λ p. p) _ _ _ refl (omega (arith, n.net.no8))
      (at_pass 9 (repeated_side S l) (length l) S.face _ _ _ refl (omega (arith, n.net.no9))
      (at_pass 10 (non_manifold S l) v (λ p. p) _ _ _ refl (omega (arith, n.net.no10))
      (at_hit 11 (bad_valence S l) v (λ p. p) _ _ refl b)))))))

pub large_ring : LargeRing
large_ring = record {
  refuses = λ c n p h m b r k.
      let f = first_reach (bad_valence (S c n) (l c n)) (v c n) p b (ring_bad (S c n) (v c n) (l c n) (oriented c n) p h m r (omega arith)) in
      (first (bad_valence (S c n) (l c n)) (v c n), f, sym (gets_11 c n (omega arith)));
}
