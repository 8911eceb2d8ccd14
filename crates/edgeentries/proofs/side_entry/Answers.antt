-- `side_entry` meets its contract. Assumes nothing.
use native.Mathlib.Omega.{arith}
use Prim.Native.Nat.{ℕ, ◌+◌}
use native.Mathlib.Nat.{add_assoc}
use mathlib.Core.Path.{ap}
use lib.ListN.{get_or}
use Rattle.edgeentries.specs.Entry.{entry_of}
use Rattle.edgeentries.proofs.side_entry.Goals as goal

pub returns : goal.returns
unfolding entry_of
returns c = let b = c.type_inv.work (c.args.n + c.args.h + c.args.i) in (ap (λ (k : ℕ). get_or c.args.work.now k 0) (add_assoc c.args.n c.args.h c.args.i), omega arith)
