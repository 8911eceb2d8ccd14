-- `scan::first_suspect` meets its contract. Assumes nothing.
use mathlib.Core.Path.{sym, ◌∙◌}
use borrow.Author.Tests.{eqb-true}
use Rattle.scan.proofs.Good.{four_sided}
use Rattle.scan.proofs.first_suspect.Goals as goal

pub returns-then-is_empty : goal.returns-then-is_empty
returns-then-is_empty c = four_sided c.args.sides.now c.args.faces.now c.args.nv _ (eqb-true _ _ (sym c.is_empty.ensures ∙ c.if-is_empty.true)) c.skip_good.ensures
