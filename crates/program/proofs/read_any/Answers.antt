-- `program::read_any` meets its contract. Assumes nothing.
use mathlib.Core.Path.{sym, ◌∙◌}
use Rattle.textform.specs.Bytes.{bytes}
use Rattle.textform.specs.Form.{parse}
use Rattle.readingform.proofs.Cases.{read_same}
use Rattle.objform.specs.Form.{parse_obj}
use Rattle.programform.specs.Answer.{parse_any}
use Rattle.programform.proofs.Parsing.{parse_obj_lem, parse_text}
use Rattle.text.proofs.Lines.{starts_is}
use Rattle.program.proofs.read_any.Goals as goal

pub returns-then-starts_with : goal.returns-then-starts_with
unfolding bytes
returns-then-starts_with c =
    let a = c.args in
    c.read_net.ensures ∙ sym (read_same parse_any parse_obj a.text.now _ _ _ (parse_obj_lem a.text.now (starts_is (bytes "#") a.text.now c.if-starts_with.ensures.value)))

pub returns-else-starts_with : goal.returns-else-starts_with
unfolding bytes
returns-else-starts_with c =
    let a = c.args in
    c.read_net-else-starts_with.ensures ∙ sym (read_same parse_any parse a.text.now _ _ _ (parse_text a.text.now (starts_is (bytes "#") a.text.now c.if-starts_with.ensures.value)))
