-- Both forms of a text that writes a net get one answer.
use Rattle.std.specs.Prelude.{◌≡◌, List, ◌≤◌, length}
use Rattle.textform.specs.Limits.{longest_text}
use Rattle.textform.specs.Form.{TextNet, without_corner}
use Rattle.textform.specs.Text.{net_text}
use Rattle.objform.specs.Text.{TextLine, obj_text, Writes}
use Rattle.programform.specs.Answer.{program_text}

-- an OBJ text of the net n, and paper 01's text of it under `x y z`
pub record FormsAgree : Type 0 where
  pub agree : (n : TextNet) (ls : List TextLine) → Writes ls n → length (obj_text n.counts.rounds ls) ≤ longest_text → length (net_text without_corner n) ≤ longest_text
      → program_text (obj_text n.counts.rounds ls) ≡ program_text (net_text without_corner n)
