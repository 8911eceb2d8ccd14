-- Reading what was written gives the number back and uses exactly its text, if no digit follows. Assumes nothing.
use mathlib.Core.Path.{◌≡◌, refl, ap, ◌∙◌}
use mathlib.Core.Bool.{true, false}
use mathlib.Core.List.{List, [], ◌∷◌, ◌++◌, append_assoc}
use Prim.Native.Nat.{ℕ, zero, suc, ◌+◌, ◌*◌, ◌-◌, ◌/◌, ◌%◌, ◌≤◌, ◌<◌}
use native.Mathlib.Decide.{dec_lt}
use native.Mathlib.Omega.{arith}
use lib.IntN.{ℤ, pos, negsuc}
use lib.Signed.{mag}
use lib.ListN.{get_or}
use borrow.Author.Tests.{lt-ltb, le-ltb, le-leb, ne_eqb}
use Rattle.decimalform.specs.Decimal.{read_as, digits, natural_text, integer_text, is_digit, read_digits, at_most, read_natural, read_integer, negated, unsigned, largest_number, largest_magnitude}

-- 48 + n is a digit whose value is n
digit_is : (n : ℕ) → n < 10 → is_digit (48 + n) ≡ true
digit_is n h = rw (le-leb 48 (48 + n) (omega arith), le-leb (48 + n) 57 (omega arith))

one_digit : (v n : ℕ) (rest : List ℕ) → n < 10 → read_digits v ((48 + n) ∷ rest) ≡ read_digits (v * 10 + n) rest
unfolding read_digits
one_digit v n rest h = let e : 48 + n - 48 ≡ n = omega arith in rw (digit_is n h, e)

-- the digits of n, read after nothing, have the value n
digits-back : (f n : ℕ) (rest : List ℕ) → n ≤ f → read_digits 0 (digits f n ++ rest) ≡ read_digits n rest
digits-back zero n rest h = let e : 0 * 10 + n ≡ n = omega arith in one_digit 0 n rest (omega arith) ∙ ap (λ (k : ℕ). read_digits k rest) e
digits-back (suc f) n rest h = go (dec_lt n 10) (λ l. digits-back f (n / 10) ((48 + n % 10) ∷ rest) (omega arith))
  where
    go : Dec (n < 10) → (10 ≤ n → read_digits 0 (digits f (n / 10) ++ ((48 + n % 10) ∷ rest)) ≡ read_digits (n / 10) ((48 + n % 10) ∷ rest))
        → read_digits 0 (digits (suc f) n ++ rest) ≡ read_digits n rest
    go (yes l) e = let q : 0 * 10 + n ≡ n = omega arith in rw (lt-ltb n 10 l) (one_digit 0 n rest l ∙ ap (λ (k : ℕ). read_digits k rest) q)
    go (no l) e =
        let q : n / 10 * 10 + n % 10 ≡ n = omega arith in
        rw (le-ltb n 10 (omega arith), append_assoc) (e (omega arith) ∙ one_digit (n / 10) (n % 10) rest (omega arith) ∙ ap (λ (k : ℕ). read_digits k rest) q)

-- the text of a number above 0 begins with a digit above 0
record Begins (l : List ℕ) : Type 0 where
  first : ℕ
  rest : List ℕ
  is : l ≡ first ∷ rest
  low : 48 < first
  high : first ≤ 57

begins : (f n : ℕ) → 0 < n → n ≤ f → Begins (digits f n)
begins zero n p h = absurd (omega arith)
begins (suc f) n p h = go (dec_lt n 10) (λ l. begins f (n / 10) (omega arith) (omega arith))
  where
    go : Dec (n < 10) → (10 ≤ n → Begins (digits f (n / 10))) → Begins (digits (suc f) n)
    go (yes l) b = record { first = 48 + n; rest = []; is = rw (lt-ltb n 10 l); low = omega arith; high = omega arith }
    go (no l) b =
        let w = b (omega arith) in
        record { first = w.first; rest = w.rest ++ ((48 + n % 10) ∷ []); is = rw (le-ltb n 10 (omega arith), w.is); low = w.low; high = w.high }

-- no digit stands at the front of l
pub record NoDigit (l : List ℕ) : Type 0 where
  pub none : is_digit (get_or l 0 0) ≡ false

no_digit_ends : (v : ℕ) (l : List ℕ) → NoDigit l → read_digits v l ≡ read_as v l
unfolding read_digits
no_digit_ends v [] h = refl
no_digit_ends v (b ∷ l) h = rw h.none

natural_after : (limit : ℕ) (l rest : List ℕ) (b : Begins l) → read_natural limit (l ++ rest) ≡ at_most limit (read_digits 0 (l ++ rest))
unfolding read_natural
natural_after limit l rest b =
    let n : (b.first ≡ 48) → ⊥ = omega arith in
    let d : is_digit b.first ≡ true = rw (le-leb 48 b.first (omega arith), le-leb b.first 57 b.high) in
    rw (b.is, ne_eqb b.first 48 n, d)

pub natural-back : (limit n : ℕ) (rest : List ℕ) → n ≤ limit → NoDigit rest → read_natural limit (natural_text n ++ rest) ≡ read_as n rest
unfolding natural_text read_natural
natural-back limit zero rest h e = refl
natural-back limit (suc n) rest h e =
    natural_after limit (digits (suc n) (suc n)) rest (begins (suc n) (suc n) (omega arith) (omega arith))
    ∙ ap (at_most limit) (digits-back (suc n) (suc n) rest (omega arith) ∙ no_digit_ends (suc n) rest e)
    ∙ rw (le-leb (suc n) limit h)

unsigned_after : (l rest : List ℕ) (b : Begins l) → read_integer (l ++ rest) ≡ unsigned (read_natural largest_number (l ++ rest))
unfolding read_integer
unsigned_after l rest b = let n : (b.first ≡ 45) → ⊥ = omega (arith, b.low) in rw (b.is, ne_eqb b.first 45 n)

zero-back : (rest : List ℕ) → read_integer (natural_text 0 ++ rest) ≡ read_as (pos 0) rest
unfolding natural_text read_integer read_natural
zero-back rest = refl

some_back : (n : ℕ) (rest : List ℕ) → read_integer (natural_text (suc n) ++ rest) ≡ unsigned (read_natural largest_number (natural_text (suc n) ++ rest))
unfolding natural_text
some_back n rest = unsigned_after (digits (suc n) (suc n)) rest (begins (suc n) (suc n) (omega arith) (omega arith))

minus_back : (l : List ℕ) → read_integer (45 ∷ l) ≡ negated (read_natural largest_magnitude l)
unfolding read_integer
minus_back l = refl

-- the same of every signed 32-bit number
pub integer_back : (z : ℤ) (rest : List ℕ) → mag z ≤ largest_number → NoDigit rest → read_integer (integer_text z ++ rest) ≡ read_as z rest
unfolding integer_text
integer_back (negsuc n) rest h e = minus_back (natural_text (suc n) ++ rest) ∙ ap negated (natural-back largest_magnitude (suc n) rest (omega arith) e)
integer_back (pos zero) rest h e = zero-back rest
integer_back (pos (suc n)) rest h e = some_back n rest ∙ ap unsigned (natural-back largest_number (suc n) rest h e)
