-- `refine_face` meets its contract. Assumes nothing.
use native.Mathlib.Omega.{arith}
use Rattle.roundfaces.proofs.Faces.{corners_written}
use Rattle.roundfaces.proofs.refine_face.Goals as goal

pub returns : goal.returns
returns c =
    let p = c.requires in
    corners_written c.args.n c.args.v c.args.edges c.args.f c.args.faces.now c.args.work.now _ _ _ _ _ _ _ _ (omega (arith, p.lt, p.room))
    c.edge_vertex-p.ensures c.edge_vertex-q.ensures c.edge_vertex-r.ensures c.edge_vertex-s.ensures
    c.put_four.ensures c.put_four-2.ensures c.put_four-3.ensures c.put_four-4.ensures
