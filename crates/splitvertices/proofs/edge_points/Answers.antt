-- `edge_points` meets its contract: the midpoints of the edges met before h are made. Assumes nothing.
use mathlib.Core.Path.{◌≡◌, refl, ap, ◌∙◌, subst}
use Prim.Native.Nat.{◌+◌}
use native.Mathlib.Omega.{arith}
use Rattle.search.specs.Search.{count}
use Rattle.topology.specs.HalfEdge.{first_met, edge_count}
use Rattle.polygons.specs.Polygons.{shape_of}
use Rattle.splitvertices.specs.Passes.{Made}
use Rattle.splitvertices.proofs.Passes.{made_none, turn_in, turned_made, turned_count}
use Rattle.splitvertices.proofs.edge_points.Goals as goal

pub loop-h-init : goal.loop-h-init
unfolding count
loop-h-init c =
    let l = c.args.mesh.faces.now in
    let p = c.args.points.now in
    let z : c.args.v ≡ c.args.v + 0 = omega arith in
    (refl, subst (Made c.args.mesh.sides.now l c.args.v p p) z (made_none c.args.mesh.sides.now l c.args.v p c.requires))

pub edge_side-edges-requires : goal.edge_side-edges-requires
edge_side-edges-requires c =
    turn_in c.args.mesh.sides.now c.args.mesh.faces.now c.args.v c.args.points.now c.requires c.args.mesh.work.now c.args.mesh.linked
    c.loop-h.points c.loop-h.edges c.loop-h.h c.loop-h.invariant.1 c.loop-h-test.true c.loop-h.invariant.0

pub loop-h-preserved : goal.loop-h-preserved
loop-h-preserved c =
    let i = c.loop-h.invariant in (
      turned_count c.args.mesh.sides.now c.args.mesh.faces.now c.args.v c.args.points.now c.requires c.args.mesh.work.now c.args.mesh.linked
          c.loop-h.points c.loop-h.edges c.loop-h.h i.1 c.loop-h-test.true i.0 _ _ c.edge_side-edges.ensures,
      turned_made c.args.mesh.sides.now c.args.mesh.faces.now c.args.v c.args.points.now c.requires c.args.mesh.work.now c.args.mesh.linked
          c.loop-h.points c.loop-h.edges c.loop-h.h i.1 c.loop-h-test.true i.0 _ _ c.edge_side-edges.ensures,
    )

pub returns-clause-value : goal.returns-clause-value
unfolding edge_count
returns-clause-value c = c.loop-h.invariant.0 ∙ ap (count (first_met (shape_of c.args.mesh.sides.now) c.args.mesh.faces.now)) (omega arith)
