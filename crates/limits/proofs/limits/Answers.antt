-- `limits::limits` meets its contract: past refusals 1, 2 and 14, the size and the room. Assumes nothing.
use mathlib.Core.Path.{◌∙◌}
use Rattle.std.proofs.Common.{rules}
use Rattle.limits.specs.Answer.{lengths_in}
use Rattle.limits.proofs.Laws.{past_tables}
use Rattle.limits.proofs.limits.Goals as goal

pub returns-in_err-test_size : goal.returns-in_err-test_size
returns-in_err-test_size c =
    past_tables c.args.rounds c.args.sides.now (lengths_in c.args.n) _ _ c.quadrilaterals-f.ensures c.final_faces-g.ensures c.in_ok-refuse_if.ensures c.in_ok-test_tables.ensures
    ∙ rw c.in_err-test_size.ensures (search rules)

pub returns : goal.returns
returns c =
    past_tables c.args.rounds c.args.sides.now (lengths_in c.args.n) _ _ c.quadrilaterals-f.ensures c.final_faces-g.ensures c.in_ok-refuse_if.ensures c.in_ok-test_tables.ensures
    ∙ rw (c.in_ok-test_size.ensures, c.test_room.ensures)
