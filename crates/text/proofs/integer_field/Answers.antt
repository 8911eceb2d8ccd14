-- `text::integer_field` meets its contract. Assumes nothing.
use borrow.Author.Rules.{rules}
use mir.Syntax.{w32}
use mir.Val.{SFits}
use mir.Facts.{to_z-of_z}
use Rattle.decimalform.specs.Decimal.{read_integer}
use Rattle.textform.specs.Form.{coordinate}
use Rattle.decimal.proofs.Reading.{gives_none}
use Rattle.text.proofs.Lines.{no_field, field_ended}
use Rattle.text.proofs.integer_field.Goals as goal

pub returns-in_err-z : goal.returns-in_err-z
unfolding coordinate
returns-in_err-z c = gives_none c.from_residual.ensures (no_field read_integer c.args.line.now c.args.at c.args.end c.in_err-z.ensures)

pub returns : goal.returns
unfolding coordinate
returns c =
    let f : SFits w32 c.in_ok-z.z.value = search rules in
    field_ended read_integer c.args.line.now c.args.at c.args.end c.in_ok-z.ensures (simp to_z-of_z at c.ended.ensures)
