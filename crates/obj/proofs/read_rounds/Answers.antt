-- `obj::read_rounds` meets its contract. Assumes nothing.
use mathlib.Core.Path.{refl, ◌∙◌}
use Rattle.textform.specs.Bytes.{bytes}
use Rattle.decimal.proofs.Reading.{gives_none}
use Rattle.text.proofs.Lines.{starts_is}
use Rattle.obj.proofs.Fields.{rounds_none, rounds_there}
use Rattle.obj.proofs.read_rounds.Goals as goal

pub returns-then-not-starts_with : goal.returns-then-not-starts_with
unfolding bytes
returns-then-not-starts_with c = gives_none refl (rounds_none _ (starts_is (bytes "# rounds ") c.args.text.now c.starts_with.ensures.value ∙ c.if-not-starts_with.true))

pub returns : goal.returns
unfolding bytes
returns c =
    rw (rounds_there c.args.text.now (starts_is (bytes "# rounds ") c.args.text.now c.starts_with.ensures.value ∙ c.if-not-starts_with.false)) c.natural_field.ensures
