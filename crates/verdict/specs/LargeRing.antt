-- A full ring of more than eight faces gets 11, whatever their number. Paper 02: "a net with a ring of 4,096 faces and no reason before 11 still gets 11."
use Rattle.std.specs.Prelude.{◌≡◌, ℕ, ◌≤◌, ◌<◌, length}
use Rattle.bounds.specs.Bounds.{max_ring}
use Rattle.search.specs.Search.{first}
use Rattle.topology.specs.Vertex.{Ring}
use Rattle.polygons.specs.Polygons.{shape_of}
use Rattle.refusals.specs.Refusals.{bad_mark, bad_corner, isolated, repeated_side, non_manifold}
use Rattle.nets.specs.Net.{ControlNet}
use Rattle.verdict.specs.Call.{Call}
use Rattle.verdict.specs.Verdict.{accepted, refused, bad_coordinate, call_verdict, verdict}

-- 5 to 10 hold nowhere in the net m
pub record NoneOf5To10 (m : ControlNet) : Type 0 where
  pub no5 : first (bad_coordinate m.vertices) (length m.vertices) ≡ length m.vertices
  pub no6 : first (bad_mark m.marks) (length m.marks) ≡ length m.marks
  pub no7 : first (bad_corner (shape_of m.sides) (length m.marks) m.faces) (length m.faces) ≡ length m.faces
  pub no8 : first (isolated m.faces) (length m.marks) ≡ length m.marks
  pub no9 : first (repeated_side (shape_of m.sides) m.faces) (length m.faces) ≡ length m.faces
  pub no10 : first (non_manifold (shape_of m.sides) m.faces) (length m.marks) ≡ length m.marks

-- "no reason before 11": neither 1 to 4, 14 and 16 for the call, nor 5 to 10 in its net
pub record NoneBefore11 (c : Call) : Type 0 where
  pub call : call_verdict c ≡ accepted
  pub net : NoneOf5To10 c.net

-- a full ring of m faces at p gets 11, at p or at a vertex before it
pub record LargeRing : Type 0 where
  pub refuses : (c : Call) → NoneBefore11 c → (p h m : ℕ) → p < length c.net.marks → Ring (shape_of c.net.sides) c.net.faces p h m → max_ring < m
      → (q : ℕ) × (q ≤ p) × (verdict c ≡ refused 11 q)
