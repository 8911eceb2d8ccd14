-- Numbers as a table on paper has them, so that a row can be compared with the paper's at sight.
use Rattle.std.specs.Prelude.{Bool, true, false, cond, ◌&&◌, List, ◌++◌, ℕ, ◌+◌, ◌-◌, ◌*◌, eqb, leb, ℤ, pos, neg_ℤ, nat_abs}
use mathlib.Core.List as list
use Prim.Native.Char.{Char, code}
use Prim.Native.String.{String, [], ◌∷◌}

-- what has been read since the last number ended: nothing, or a number so far, with a minus before it or without
pub data Reading : Type 0 where
  nothing : Reading
  number : (minus : Bool) (n : ℕ) → Reading

abbrev pub number_read : Reading → List ℤ
number_read nothing = list.[]
number_read (number true n) = list.◌∷◌ (neg_ℤ (pos n)) list.[]
number_read (number false n) = list.◌∷◌ (pos n) list.[]

abbrev pub with_digit : Reading → ℕ → Reading
with_digit nothing d = number false d
with_digit (number minus n) d = number minus (10 * n + d)

-- 0 to 9 are 48 to 57, and a minus is 45
abbrev pub is_digit_character : Char → Bool
is_digit_character c = leb 48 (code c) && leb (code c) 57

abbrev pub read_more : Reading → Char → Reading
read_more r c = cond (is_digit_character c) (with_digit r (code c - 48)) (cond (eqb (code c) 45) (number true 0) nothing)

unfoldable pub read_from : Reading → String → List ℤ
read_from r [] = number_read r
read_from r (c ∷ s) = cond (is_digit_character c) list.[] (number_read r) ++ read_from (read_more r c) s

-- the whole numbers in a text, in decimal, each with a minus where it is below 0; what is neither digit nor minus stands between numbers
abbrev pub integers : String → List ℤ
integers s = read_from nothing s

abbrev pub absolutes : List ℤ → List ℕ
absolutes list.[] = list.[]
absolutes (list.◌∷◌ z l) = list.◌∷◌ (nat_abs z) (absolutes l)

abbrev pub naturals : String → List ℕ
naturals s = absolutes (integers s)

-- the codes of the characters of a text
unfoldable pub characters : String → List ℕ
characters [] = list.[]
characters (c ∷ s) = list.◌∷◌ (code c) (characters s)
