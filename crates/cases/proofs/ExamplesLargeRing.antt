-- The theorem on large rings, `verdict` `LargeRing`, has a call that it speaks of: nine faces at one vertex, with one opposite corner. Assumes nothing.
use mathlib.Core.Path.{◌≡◌, refl}
use Rattle.search.specs.Search.{first_from, first, any, count, iterate}
use Rattle.topology.specs.Shape.{quads}
use Rattle.topology.specs.HalfEdge.{from, to, opposed, mate}
use Rattle.topology.specs.Boundary.{is_boundary_from, boundary_from}
use Rattle.topology.specs.Vertex.{leaves, valence, turn, start, stops, faces_met, Ring}
use Rattle.topology.specs.Manifold.{Oriented}
use Rattle.polygons.specs.Polygons.{shape_of}
use Rattle.polygons.proofs.Counts.{shape_lawful}
use Rattle.refusals.specs.Refusals.{bad_mark, bad_corner, isolated, repeated_side, non_manifold, bad_valence, marked_ring}
use Rattle.refusals.proofs.Oriented.{oriented_if}
use Rattle.refusals.proofs.Manifold.{manifold_ring}
use Rattle.nets.specs.Net.{plain}
use Rattle.verdict.specs.Call.{Call, call, lengths_of}
use Rattle.verdict.specs.Verdict.{refused, tables_verdict, size_verdict, room_verdict, limits_verdict, bad_coordinate, coordinates_verdict, vertex_verdict, adjacency_verdict, faces_verdict, shape_verdict, net_verdict, verdict}
use Rattle.verdict.specs.LargeRing.{NoneBefore11}
use Rattle.verdict.proofs.Accepted.{call_both, within_if}
use Rattle.cases.specs.Digits.{read_from}
use Rattle.cases.specs.Cases.{ample, flat_net}

-- vertex 0 is in all faces, and vertex 1 opposite it in each; vertices 2 to 10 lie round both
unfoldable nine : Call
nine = call 0 (plain (flat_net 11 "0 2 1 3, 0 3 1 4, 0 4 1 5, 0 5 1 6, 0 6 1 7, 0 7 1 8, 0 8 1 9, 0 9 1 10, 0 10 1 2")) 4 ample

none_before_11 : NoneBefore11 nine
unfolding nine read_from limits_verdict tables_verdict size_verdict room_verdict bad_coordinate bad_mark bad_corner isolated repeated_side non_manifold shape_of first_from first any count iterate quads from to opposed mate is_boundary_from boundary_from leaves valence turn start stops faces_met
none_before_11 = record { call = refl; net = record { no5 = refl; no6 = refl; no7 = refl; no8 = refl; no9 = refl; no10 = refl } }

-- its faces at vertex 0 are a ring of nine
nine_ring : Ring (shape_of nine.net.sides) nine.net.faces 0 0 9
unfolding nine read_from non_manifold shape_of first_from first any count iterate quads from to opposed mate is_boundary_from boundary_from leaves valence turn start stops faces_met
nine_ring = manifold_ring (shape_of nine.net.sides) 11 nine.net.faces oriented 0 refl refl
  where
    oriented : Oriented (shape_of nine.net.sides) 11 nine.net.faces
    oriented = oriented_if (shape_of nine.net.sides) 11 nine.net.faces (shape_lawful nine.net.sides 36 (within_if 0 nine.net.sides (lengths_of nine.net nine.room) (call_both nine none_before_11.call).0).sided) none_before_11.net.no7 none_before_11.net.no9

refused_11 : verdict nine ≡ refused 11 0
unfolding nine read_from verdict limits_verdict tables_verdict size_verdict room_verdict net_verdict coordinates_verdict shape_verdict faces_verdict adjacency_verdict vertex_verdict bad_coordinate bad_mark bad_corner isolated repeated_side non_manifold bad_valence marked_ring shape_of first_from first any count iterate quads from to opposed mate is_boundary_from boundary_from leaves valence turn start stops faces_met
refused_11 = refl
