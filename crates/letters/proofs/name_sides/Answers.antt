-- `name_sides` meets its contract: what the sides below k touch is put right. Assumes nothing.
use Rattle.letters.proofs.Boundary.{put_then}
use Rattle.letters.proofs.name_sides.Goals as goal

pub loop-k-preserved : goal.loop-k-preserved
loop-k-preserved c = put_then _ _ c.args.h c.loop-k.k _ _ _ _ c.loop-k.invariant c.name_side.ensures
