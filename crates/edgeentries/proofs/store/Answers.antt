-- `store` meets its contract. Assumes nothing.
use mir.Syntax.{w64}
use mir.Val.{SFits}
use mir.Facts.{to_z-of_z}
use Rattle.edgeentries.proofs.Packed.{put_is}
use Rattle.edgeentries.proofs.store.Goals as goal

pub returns : goal.returns
returns c =
    let f : SFits w64 c.args.z = c.ranges.z in
    put_is _ _ c.args.z c.bias-u.result (simp to_z-of_z at c.bias-u.ensures)
