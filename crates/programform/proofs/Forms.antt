-- Both forms of a text that writes a net get one answer. Assumes nothing.
use mathlib.Core.Path.{◌≡◌, refl, sym, ◌∙◌}
use mathlib.Core.Bool.{true}
use mathlib.Core.List.{List, []}
use Prim.Native.Nat.{ℕ, ◌≤◌}
use native.Mathlib.Omega.{arith}
use lib.ListN.{length}
use borrow.Author.Tests.{le-ltb}
use Rattle.textform.specs.Limits.{longest_text}
use Rattle.textform.specs.Bytes.{bytes}
use Rattle.textform.specs.Form.{TextNet, without_corner, starts_with, parsed}
use Rattle.textform.specs.Text.{texts, net_lines, net_text}
use Rattle.textform.proofs.Back.{net-back}
use Rattle.objform.specs.Text.{TextLine, rounds_text, obj_text, Writes}
use Rattle.objform.proofs.Back.{obj_back}
use Rattle.objform.proofs.Written.{written_fits}
use Rattle.programform.specs.Answer.{answer_to, parse_any, program_text}
use Rattle.programform.specs.Forms.{FormsAgree}
use Rattle.programform.proofs.Parsing.{parse_obj_lem, parse_text, names_other}

-- the answer to a text that writes n
answered : (n : TextNet) (text : List ℕ) → length text ≤ longest_text → parse_any text ≡ parsed n [] → program_text text ≡ answer_to (parsed n [])
unfolding program_text
answered n text short e = rw (le-ltb longest_text (length text) short, e)

obj_first : (k : ℕ) (ls : List TextLine) → starts_with (bytes "#") (obj_text k ls) ≡ true
unfolding obj_text rounds_text bytes
obj_first k ls = refl

module _ (n : TextNet) (ls : List TextLine) (w : Writes ls n) where
  abbrev obj : List ℕ
  obj = obj_text n.counts.rounds ls

  text_form : length obj ≤ longest_text → parse_any (net_text without_corner n) ≡ parsed n []
  unfolding net_text net_lines texts
  text_form short = parse_text (net_text without_corner n) (names_other n.rule _) ∙ net-back without_corner n (written_fits n ls w (omega arith))

  agree : length obj ≤ longest_text → length (net_text without_corner n) ≤ longest_text → program_text obj ≡ program_text (net_text without_corner n)
  agree a b = answered n obj a (parse_obj_lem obj (obj_first n.counts.rounds ls) ∙ obj_back.back n ls w) ∙ sym (answered n (net_text without_corner n) b (text_form a))

pub forms_agree : FormsAgree
forms_agree = record { agree = agree }
