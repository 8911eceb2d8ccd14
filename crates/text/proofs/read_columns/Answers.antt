-- `text::read_columns` meets its contract. Assumes nothing.
use mathlib.Core.Path.{refl}
use mathlib.Core.Bool.{true, false}
use Rattle.textform.specs.Bytes.{bytes}
use Rattle.textform.specs.Form.{column_names, with_corner, without_corner}
use Rattle.text.proofs.Lines.{starts_is, first_names, second_names, no_names}
use Rattle.text.proofs.read_columns.Goals as goal

pub returns-then-starts_with : goal.returns-then-starts_with
unfolding bytes
returns-then-starts_with c = first_names _ column_names with_corner without_corner _ true 13 refl refl (starts_is (column_names with_corner) c.args.text.now c.if-starts_with.ensures.value)

pub returns-then-starts_with-2 : goal.returns-then-starts_with-2
unfolding bytes
returns-then-starts_with-2 c =
    second_names _ column_names with_corner without_corner _ false 6 refl refl (starts_is (column_names with_corner) c.args.text.now c.if-starts_with.ensures.value) (starts_is (column_names without_corner) c.args.text.now c.if-starts_with-2.ensures.value)

pub returns : goal.returns
unfolding bytes
returns c = no_names _ column_names with_corner without_corner _ (starts_is (column_names with_corner) c.args.text.now c.if-starts_with.ensures.value) (starts_is (column_names without_corner) c.args.text.now c.if-starts_with-2.ensures.value)
