-- `printing::put_columns` meets its contract. Assumes nothing.
use Rattle.textform.specs.Bytes.{bytes}
use Rattle.printing.proofs.put_columns.Goals as goal

pub returns-then-rule : goal.returns-then-rule
unfolding bytes
returns-then-rule c = rw c.if-rule.true c.put_bytes.ensures

pub returns-else-rule : goal.returns-else-rule
unfolding bytes
returns-else-rule c = rw c.if-rule.false c.put_bytes-else-rule.ensures
