-- The refusals of counts, and short texts, computed. Assumes nothing.
use mathlib.Core.Path.{◌≡◌, refl}
use mathlib.Core.Bool.{true, false}
use mathlib.Core.List.{[], ◌∷◌}
use Prim.Native.Nat.{ℕ}
use Prim.Native.String.{String}
use Rattle.verdict.specs.Verdict.{Verdict, accepted, refused, limits_verdict, tables_verdict, size_verdict, room_verdict}
use Rattle.decimalform.specs.Decimal.{read_digits, read_natural}
use Rattle.textform.specs.Bytes.{bytes}
use Rattle.textform.specs.Form.{read_names, natural, read_counts, rows, parse_head, parse_body, parse}
use Rattle.readingform.specs.Loaded.{ReadAnswer, net_read, net_refused, counts_verdict, read_by}

-- V, F, rounds, and their order
abbrev counted : ℕ → ℕ → ℕ → Verdict
counted v f k = counts_verdict (record { vertices = v; faces = f; rounds = k })

refusals : counted 1024 256 0 ∷ counted 0 0 6 ∷ counted 4 1 4 ∷ counted 9000 9000 7 ∷ counted 8193 1 0 ∷ counted 1 4097 0 ∷ counted 1 65 6 ∷ counted 1 64 6 ∷ counted 1025 1 0 ∷ counted 4 257 0 ∷ []
    ≡ accepted ∷ accepted ∷ accepted ∷ refused 1 0 ∷ refused 3 0 ∷ refused 3 0 ∷ refused 3 0 ∷ refused 4 0 ∷ refused 4 0 ∷ refused 4 0 ∷ []
unfolding counts_verdict limits_verdict tables_verdict size_verdict room_verdict
refusals = refl

-- a first line without `rule`, with it, and with another word; a refusal that letters do not change
abbrev answer : String → ReadAnswer
answer s = (read_by parse (bytes s) [] [] []).answer

requests : answer "vertices faces rounds\n0 0 2\nx y z\na b c d\n"
    ∷ answer "vertices faces rounds rule\n0 0 2\nx y z\na b c d\n"
    ∷ answer "vertices faces rounds rules\n0 0 2\nx y z\na b c d\n"
    ∷ answer "vertices faces rounds rule\n0 0 7\nx y z\na b c d\n"
    ∷ []
    ≡ net_read 2 false 0 0 ∷ net_read 2 true 0 0 ∷ net_refused 13 1 ∷ net_refused 1 0 ∷ []
unfolding read_by parse parse_head parse_body read_names read_counts natural rows read_natural read_digits bytes counts_verdict limits_verdict tables_verdict size_verdict room_verdict
requests = refl
