-- `entry_at` meets its contract. Assumes nothing.
use native.Mathlib.Omega.{arith}
use Prim.Native.Nat.{◌+◌}
use mathlib.Core.Path.{refl}
use Rattle.edgeentries.specs.Entry.{entry_of}
use Rattle.edgeentries.proofs.entry_at.Goals as goal

pub returns : goal.returns
unfolding entry_of
returns c = let b = c.type_inv.work (c.args.n + c.args.h) in (refl, omega arith)
