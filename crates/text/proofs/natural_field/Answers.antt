-- `text::natural_field` meets its contract. Assumes nothing.
use Rattle.decimalform.specs.Decimal.{read_natural}
use Rattle.textform.specs.Form.{natural}
use Rattle.decimal.proofs.Reading.{gives_none}
use Rattle.text.proofs.Lines.{no_field, field_ended}
use Rattle.text.proofs.natural_field.Goals as goal

pub returns-in_err-n : goal.returns-in_err-n
unfolding natural
returns-in_err-n c = gives_none c.from_residual.ensures (no_field (read_natural c.args.limit) c.args.line.now c.args.at c.args.end c.in_err-n.ensures)

pub returns : goal.returns
unfolding natural
returns c = field_ended (read_natural c.args.limit) c.args.line.now c.args.at c.args.end c.in_ok-n.ensures c.ended.ensures
