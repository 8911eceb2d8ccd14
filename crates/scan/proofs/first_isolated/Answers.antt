-- `scan::first_isolated` meets its contract: the flags of enough vertices tell. Assumes nothing.
use Prim.Native.Nat.{◌+◌, ◌*◌}
use native.Mathlib.Omega.{arith}
use lib.ListN.{length}
use Rattle.lists.proofs.Parts.{drop_later}
use Rattle.scan.proofs.Laws.{isolated_early}
use Rattle.scan.proofs.first_isolated.Goals as goal

pub returns : goal.returns
returns c = let l = c.args.faces.now in let p = c.requires in (isolated_early l c.args.nv _ p.1 c.first_unflagged.ensures, drop_later (length l + 1) (4 * length l) _ _ (omega (arith, p.0)) c.flag_all.ensures.1)
