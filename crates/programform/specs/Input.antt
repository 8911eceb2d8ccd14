-- The program's input in its buffer.
use Rattle.std.specs.Prelude.{◌≡◌, List, ℕ, ◌+◌, length, take}
use Rattle.textform.specs.Limits.{longest_text}
use Rattle.printingform.specs.Lines.{TextWritten}
use Rattle.printingform.specs.Tables.{answer_room}
use Rattle.programform.specs.Answer.{program_text}

-- one byte more than the longest text has, so that a longer one is noticed
abbrev pub input_room : ℕ
input_room = longest_text + 1

-- the buffer d comes to o with the answer, of r bytes, to whatever input s has its first bytes in b: n of them, which is all of s, or as many as b holds
abbrev pub InputAnswered : (b : List ℕ) (n : ℕ) (d o : List ℕ) (r : ℕ) → Type 0
InputAnswered b n d o r = (s : List ℕ) → take n b ≡ take (length b) s → TextWritten d o r (program_text s) answer_room
