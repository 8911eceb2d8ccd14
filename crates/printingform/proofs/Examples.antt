-- The answer of small tables, computed, and the largest answers. Assumes nothing.
use mathlib.Core.Path.{◌≡◌, refl}
use mathlib.Core.Bool.{Bool, true, false}
use mathlib.Core.List.{List, [], ◌∷◌}
use Prim.Native.Nat.{ℕ}
use lib.IntN.{pos, negsuc}
use Rattle.lists.specs.Tabulate.{tabulate}
use Rattle.decimalform.specs.Decimal.{natural_text, integer_text}
use Rattle.textform.specs.Bytes.{bytes}
use Rattle.textform.specs.Text.{pair_text, texts, numbers_text, lettered_text, face_text, answer_text}
use Rattle.printingform.specs.Tables.{lettered_of, faces_of, tables_text, room_for, answer_room}

-- two vertices and a face, and numbers behind them that are not written
abbrev written : (rule : Bool) → List ℕ
written rule = tables_text rule 2 1 (pos 1 ∷ negsuc 1 ∷ pos 3 ∷ pos 4 ∷ pos 5 ∷ pos 6 ∷ pos 7 ∷ []) (0 ∷ 1 ∷ 2 ∷ 3 ∷ 4 ∷ []) (8 ∷ 9 ∷ 10 ∷ []) (86 ∷ 65 ∷ 66 ∷ [])

tables : written false ∷ written true ∷ []
    ≡ bytes "vertices faces\n2 1\nx y z corner\n1 -2 3 8\n4 5 6 9\na b c d\n0 1 2 3\n"
    ∷ bytes "vertices faces\n2 1\nx y z corner rule\n1 -2 3 8 V\n4 5 6 9 A\na b c d\n0 1 2 3\n"
    ∷ []
unfolding tabulate natural_text integer_text bytes pair_text texts numbers_text lettered_text face_text answer_text lettered_of faces_of
tables = refl

-- without letters and with them
largest : room_for false 1024 256 ∷ answer_room ∷ [] ≡ 52302 ∷ 54355 ∷ []
largest = refl
