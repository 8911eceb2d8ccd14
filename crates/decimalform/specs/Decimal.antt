-- Numbers as text: written, and read from the front of a text. A text is a list of bytes.
use Rattle.std.specs.Prelude.{Bool, cond, ◌&&◌, List, [], ◌∷◌, ◌++◌, ℕ, zero, suc, ◌+◌, ◌*◌, ◌-◌, ◌/◌, ◌%◌, leb, ltb, eqb, ℤ, pos, negsuc}

-- ---- writing. Paper 01: "Numbers are decimal"; "a minus stands only before a coordinate that is not 0"

-- the decimal digits of n, in at most f divisions by ten
abbrev pub digits : ℕ → ℕ → List ℕ
digits zero n = (48 + n) ∷ []
digits (suc f) n = cond (ltb n 10) ((48 + n) ∷ []) (digits f (n / 10) ++ ((48 + n % 10) ∷ []))

unfoldable pub natural_text : ℕ → List ℕ
natural_text n = digits n n

unfoldable pub integer_text : ℤ → List ℕ
integer_text (pos n) = natural_text n
integer_text (negsuc n) = 45 ∷ natural_text (suc n)

-- ---- reading

-- the largest number of signed 32 bits, and the largest magnitude after a minus
abbrev pub largest_number : ℕ
largest_number = 2147483647

abbrev pub largest_magnitude : ℕ
largest_magnitude = 2147483648

-- what stands at the front of a text: a value, with the rest of the text, or nothing that has the form
pub data Read (A : Type 0) : Type 0 where
  read_as : A → List ℕ → Read A
  bad : Read A

abbrev pub is_digit : ℕ → Bool
is_digit b = leb 48 b && leb b 57

-- all digits at the front, after digits with the value v
unfoldable pub read_digits : ℕ → List ℕ → Read ℕ
read_digits v [] = read_as v []
read_digits v (b ∷ l) = cond (is_digit b) (read_digits (v * 10 + (b - 48)) l) (read_as v (b ∷ l))

abbrev pub at_most : ℕ → Read ℕ → Read ℕ
at_most limit (read_as v l) = cond (leb v limit) (read_as v l) bad
at_most limit bad = bad

-- Paper 01: "There is no plus sign and no leading zero": after a 0 the number has ended
unfoldable pub read_natural : ℕ → List ℕ → Read ℕ
read_natural limit [] = bad
read_natural limit (b ∷ l) = cond (eqb b 48) (read_as 0 l) (cond (is_digit b) (at_most limit (read_digits 0 (b ∷ l))) bad)

abbrev pub unsigned : Read ℕ → Read ℤ
unsigned (read_as n l) = read_as (pos n) l
unsigned bad = bad

abbrev pub negated : Read ℕ → Read ℤ
negated (read_as zero l) = bad
negated (read_as (suc n) l) = read_as (negsuc n) l
negated bad = bad

-- Paper 01: "a minus stands only before a coordinate that is not 0", "a number beyond signed 32 bits" is refused
unfoldable pub read_integer : List ℕ → Read ℤ
read_integer [] = bad
read_integer (b ∷ l) = cond (eqb b 45) (negated (read_natural largest_magnitude l)) (unsigned (read_natural largest_number (b ∷ l)))
