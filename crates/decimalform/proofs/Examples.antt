-- Numbers as text, computed. Assumes nothing.
use mathlib.Core.Path.{◌≡◌, refl}
use mathlib.Core.List.{[], ◌∷◌}
use lib.IntN.{pos, negsuc}
use Rattle.decimalform.specs.Decimal.{read_as, bad, natural_text, integer_text, read_natural, read_integer, read_digits}

-- 0, 10, -120, the largest and the smallest signed 32-bit number
zero_text : natural_text 0 ≡ 48 ∷ []
unfolding natural_text
zero_text = refl

ten_text : natural_text 10 ≡ 49 ∷ 48 ∷ []
unfolding natural_text
ten_text = refl

negative_text : integer_text (negsuc 119) ≡ 45 ∷ 49 ∷ 50 ∷ 48 ∷ []
unfolding natural_text integer_text
negative_text = refl

largest : read_integer (50 ∷ 49 ∷ 52 ∷ 55 ∷ 52 ∷ 56 ∷ 51 ∷ 54 ∷ 52 ∷ 55 ∷ []) ≡ read_as (pos 2147483647) []
unfolding read_integer read_natural read_digits
largest = refl

too_large : read_integer (50 ∷ 49 ∷ 52 ∷ 55 ∷ 52 ∷ 56 ∷ 51 ∷ 54 ∷ 52 ∷ 56 ∷ []) ≡ bad
unfolding read_integer read_natural read_digits
too_large = refl

smallest : read_integer (45 ∷ 50 ∷ 49 ∷ 52 ∷ 55 ∷ 52 ∷ 56 ∷ 51 ∷ 54 ∷ 52 ∷ 56 ∷ 32 ∷ []) ≡ read_as (negsuc 2147483647) (32 ∷ [])
unfolding read_integer read_natural read_digits
smallest = refl

-- after the 0 of 07 the number has ended; -0, + and an empty text are bad
leading_zero : read_natural 255 (48 ∷ 55 ∷ []) ≡ read_as 0 (55 ∷ [])
unfolding read_natural read_digits
leading_zero = refl

minus_zero : read_integer (45 ∷ 48 ∷ []) ≡ bad
unfolding read_integer read_natural read_digits
minus_zero = refl

plus_sign : read_integer (43 ∷ 49 ∷ []) ≡ bad
unfolding read_integer read_natural read_digits
plus_sign = refl

nothing : read_natural 255 [] ≡ bad
unfolding read_natural
nothing = refl
