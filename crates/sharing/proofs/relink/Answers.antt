-- `relink` meets its contract. Assumes nothing.
use Rattle.sharing.proofs.Laws.{relinked}
use Rattle.sharing.proofs.relink.Goals as goal

pub returns : goal.returns
returns c =
    relinked c.args.sides.now c.args.faces.now c.args.work.now c.requires _ c.build_shape.auto.work c.build_shape.ensures _ c.link_faces.auto.work c.link_faces.ensures.mate_table_of c.link_faces.ensures.work_unchanged
