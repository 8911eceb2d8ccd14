-- `tables::clear` meets its contract: what is filled is as many zeros. Assumes nothing.
use Rattle.std.proofs.Common.{rules}
use Rattle.tables.specs.Tables.{cleared}
use Rattle.tables.proofs.clear.Goals as goal

pub returns : goal.returns
unfolding cleared
returns c = rw (c.fill.ensures.after (search rules)) (search rules)
