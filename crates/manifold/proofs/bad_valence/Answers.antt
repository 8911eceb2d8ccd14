-- `bad_valence` meets its contract. Assumes nothing.
use mathlib.Core.Path.{sym, ap, ◌∙◌}
use native.Mathlib.Omega.{arith}
use lib.ListN.{length}
use lib.Dec.{ltb}
use borrow.Author.Tests.{ltb-true, ltb-false, lt-ltb}
use Rattle.topology.specs.Boundary.{boundary_from}
use Rattle.polygons.specs.Polygons.{shape_of}
use Rattle.topology.proofs.Boundary.{boundary_from-le}
use Rattle.refusals.proofs.Manifold.{bad_valence_fan}
use Rattle.manifold.proofs.Refused.{ring_few, ring_many}
use Rattle.manifold.proofs.bad_valence.Goals as goal

pub returns-then-is_open : goal.returns-then-is_open
returns-then-is_open c =
    let S = shape_of c.args.vertices.mesh.sides.now in
    let l = c.args.vertices.mesh.faces.now in
    let p = c.args.p in
    ap (ltb 6) c.valence-m.ensures ∙ sym (bad_valence_fan S l p (ltb-true (boundary_from S l p) (length l) (sym c.is_open.ensures ∙ c.if-is_open.true)))

pub returns-then-m-lt-MIN_RING : goal.returns-then-m-lt-MIN_RING
returns-then-m-lt-MIN_RING c =
    let S = shape_of c.args.vertices.mesh.sides.now in
    let l = c.args.vertices.mesh.faces.now in
    let p = c.args.p in
    lt-ltb c.valence-m.result 3 c.if-m-lt-MIN_RING.true ∙ sym (ring_few S l p (omega (arith, ltb-false (boundary_from S l p) (length l) (sym c.is_open.ensures ∙ c.if-is_open.false), boundary_from-le S l p)) (omega (arith, c.valence-m.ensures)))

pub returns-else-m-lt-MIN_RING : goal.returns-else-m-lt-MIN_RING
returns-else-m-lt-MIN_RING c =
    let S = shape_of c.args.vertices.mesh.sides.now in
    let l = c.args.vertices.mesh.faces.now in
    let p = c.args.p in
    ap (ltb 8) c.valence-m.ensures
    ∙ sym (ring_many S l p (omega (arith, ltb-false (boundary_from S l p) (length l) (sym c.is_open.ensures ∙ c.if-is_open.false), boundary_from-le S l p)) (omega (arith, c.valence-m.ensures)))
