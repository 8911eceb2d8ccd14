-- `text::read_input` meets its contract. Assumes nothing.
use mathlib.Core.Path.{refl}
use mathlib.Core.Bool.{true, false}
use Rattle.textform.specs.Bytes.{bytes}
use Rattle.textform.specs.Form.{input_names}
use Rattle.text.proofs.Lines.{starts_is, first_names, second_names, no_names}
use Rattle.text.proofs.read_input.Goals as goal

pub returns-then-starts_with : goal.returns-then-starts_with
unfolding bytes
returns-then-starts_with c = first_names _ input_names false true _ false 22 refl refl (starts_is (input_names false) c.args.text.now c.if-starts_with.ensures.value)

pub returns-then-starts_with-2 : goal.returns-then-starts_with-2
unfolding bytes
returns-then-starts_with-2 c =
    second_names _ input_names false true _ true 27 refl refl (starts_is (input_names false) c.args.text.now c.if-starts_with.ensures.value) (starts_is (input_names true) c.args.text.now c.if-starts_with-2.ensures.value)

pub returns : goal.returns
unfolding bytes
returns c = no_names _ input_names false true _ (starts_is (input_names false) c.args.text.now c.if-starts_with.ensures.value) (starts_is (input_names true) c.args.text.now c.if-starts_with-2.ensures.value)
