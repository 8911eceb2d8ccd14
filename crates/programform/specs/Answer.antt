-- What the program prints for a text.
use Rattle.std.specs.Prelude.{Bool, cond, List, ℕ, ltb, length}
use Rattle.curve.specs.Weights.{tension}
use Rattle.nets.specs.Net as nets
use Rattle.verdict.specs.Call.{vertex_count, face_count}
use Rattle.verdict.specs.Verdict.{Verdict, accepted, refused, or_else, net_verdict}
use Rattle.scheme.specs.Step.{steps}
use Rattle.origins.specs.Origins.{letters}
use Rattle.textform.specs.Limits.{longest_text}
use Rattle.textform.specs.Bytes.{bytes}
use Rattle.textform.specs.Form.{TextNet, starts_with, Parsed, parsed, bad_line, parse}
use Rattle.textform.specs.Text.{refusal_text}
use Rattle.readingform.specs.Loaded.{tables_of, counts_verdict}
use Rattle.objform.specs.Form.{parse_obj}
use Rattle.printingform.specs.Tables.{tables_text}

-- the refined net m, with its letters s if `rule` is asked for; or the refusal's number and place
abbrev pub answer_by : Verdict → (rule : Bool) → nets.Net → (s : List ℕ) → List ℕ
answer_by accepted rule m s = tables_text rule (vertex_count m) (face_count m) m.vertices m.faces m.marks s
answer_by (refused r p) rule m s = refusal_text r p

-- the net n after k rounds, or refusal 5 to 12; the text form has no side counts, and no word for a tension: it is 4
abbrev pub refined_text : ℕ → (rule : Bool) → nets.Net → List ℕ
refined_text k rule n = answer_by (net_verdict (nets.plain n)) rule (steps (tension 4) k n) (letters (tension 4) (nets.plain n) k)

-- Paper 01: 13 "is tested before 1"; then 1, 3 and 4 from the counts, then 5 to 12 from the net
abbrev pub answer_to : Parsed TextNet → List ℕ
answer_to (parsed n l) =
    answer_by (or_else (counts_verdict n.counts) (net_verdict (nets.plain (tables_of n)))) n.rule (steps (tension 4) n.counts.rounds (tables_of n))
    (letters (tension 4) (nets.plain (tables_of n)) n.counts.rounds)
answer_to (bad_line n) = refusal_text 13 n

-- Paper 02: "The program takes a text whose first byte is `#` as OBJ"
unfoldable pub parse_any : List ℕ → Parsed TextNet
parse_any text = cond (starts_with (bytes "#") text) (parse_obj text) (parse text)

-- Paper 01: "more than 32,768 bytes; the place is .. 0 for length, which goes first"
unfoldable pub program_text : List ℕ → List ℕ
program_text text = cond (ltb longest_text (length text)) (refusal_text 13 0) (answer_to (parse_any text))
