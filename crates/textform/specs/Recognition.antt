-- The form by its lines, without the parser: the texts of nets, and the first bad line of any other text. The parser finds just these.
use Rattle.std.specs.Prelude.{◌≡◌, List, [], ◌++◌, ℕ, ◌≤◌, ◌<◌, length, take}
use Rattle.textform.specs.Form.{TextNet, Columns, parsed, bad_line, parse}
use Rattle.textform.specs.Text.{net_lines, lines_text, net_text}
use Rattle.textform.specs.Fits.{NetFits}

-- l is the text of the net n, under some columns
pub record WrittenAs (l : List ℕ) (n : TextNet) : Type 0 where
  pub columns : Columns
  pub fits : NetFits columns n
  pub text : l ≡ net_text columns n

-- the first k lines of l are the first of a net
pub record Begins (l : List ℕ) (k : ℕ) : Type 0 where
  pub columns : Columns
  pub net : TextNet
  pub fits : NetFits columns net
  pub few : k ≤ length (net_lines columns net)
  pub rest : List ℕ
  pub text : l ≡ lines_text (take k (net_lines columns net)) ++ rest

-- Paper 01: "the place is the first bad line from 1"; "A surplus line is a bad line; where a line is missing, the place is the number it would have had":
-- l is the text of no net; its lines before line p are the first of one, and with line p they are not
pub record FirstBadLine (l : List ℕ) (p : ℕ) : Type 0 where
  pub unwritten : (n : TextNet) → WrittenAs l n → ⊥
  pub before : (k : ℕ) → k < p → Begins l k
  pub with : Begins l p → ⊥

-- Paper 01: "13: text not in the form below"
pub record RecognizesText : Type 0 where
  pub written : (c : Columns) (n : TextNet) → NetFits c n → parse (net_text c n) ≡ parsed n []
  pub accepted : (l : List ℕ) (n : TextNet) (m : List ℕ) → parse l ≡ parsed n m → WrittenAs l n
  pub refused : (l : List ℕ) (p : ℕ) → parse l ≡ bad_line p → FirstBadLine l p
