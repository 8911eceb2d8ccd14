-- `place_on` meets its contract. Assumes nothing.
use mathlib.Core.Path.{sym}
use Rattle.ringsums.proofs.Sums.{place_before, place_after}
use Rattle.ringsums.proofs.place_on.Goals as goal

pub returns-then-s-n : goal.returns-then-s-n
returns-then-s-n c = sym (place_before c.args.n c.args.s c.if-s-n.true)

pub returns-else-s-n : goal.returns-else-s-n
returns-else-s-n c = sym (place_after c.args.n c.args.s c.if-s-n.false)
