-- Reading a number, one byte a turn. Assumes nothing.
use mathlib.Core.Path.{◌≡◌, refl}
use mathlib.Core.Bool.{Bool, true, false, cond, ◌&&◌}
use mathlib.Core.List.{List, [], ◌∷◌}
use Prim.Native.Nat.{ℕ, zero, suc, ◌+◌, ◌*◌, ◌-◌, ◌≤◌, ◌<◌}
use native.Mathlib.Numerals.{add-one}
use native.Mathlib.Omega.{arith}
use lib.Dec.{leb, eqb}
use lib.ListN.{length, get_or, drop, drop_of_length-le}
use lib.IntN.{pos, neg_ℤ}
use lib.Seq.{drop-cons}
use borrow.Author.Tests.{eq-eqb, ne_eqb, lt-leb, leb-true}
use Rattle.decimalform.specs.Decimal.{Read, read_as, bad, is_digit, read_digits, at_most, read_natural, negated, unsigned, read_integer, largest_number, largest_magnitude}

module _ (l : List ℕ) (i v : ℕ) (h : i < length l) where
  at : drop i l ≡ get_or l i 0 ∷ drop (i + 1) l
  at = rw add-one (drop-cons l i 0 h)

  pub digits_on : is_digit (get_or l i 0) ≡ true → read_digits v (drop i l) ≡ read_digits (v * 10 + (get_or l i 0 - 48)) (drop (i + 1) l)
  unfolding read_digits
  digits_on e = rw (at, e)

  pub digits_stop : is_digit (get_or l i 0) ≡ false → read_digits v (drop i l) ≡ read_as v (drop i l)
  unfolding read_digits
  digits_stop e = rw (at, e)

pub digits_end : (l : List ℕ) (i v : ℕ) → length l ≤ i → read_digits v (drop i l) ≡ read_as v (drop i l)
unfolding read_digits
digits_end l i v h = rw (drop_of_length-le l {i = i} h)

-- a value above the limit stays above it
pub digits_above : (limit : ℕ) (l : List ℕ) (v : ℕ) → limit < v → at_most limit (read_digits v l) ≡ bad
unfolding read_digits
digits_above limit [] v h = rw (lt-leb v limit h)
digits_above limit (b ∷ l) v h = go (is_digit b) (digits_above limit l (v * 10 + (b - 48)) (omega arith))
  where
    go : (t : Bool) → at_most limit (read_digits (v * 10 + (b - 48)) l) ≡ bad → at_most limit (cond t (read_digits (v * 10 + (b - 48)) l) (read_as v (b ∷ l))) ≡ bad
    go true e = e
    go false e = rw (lt-leb v limit h)

-- the byte b is a digit
pub digit_low : (b : ℕ) → is_digit b ≡ true → 48 ≤ b
digit_low b e = go (leb 48 b) refl e
  where
    go : (t : Bool) → leb 48 b ≡ t → (t && leb b 57) ≡ true → 48 ≤ b
    go true p q = leb-true 48 b p
    go false p q = let z : ◌≡◌ {A = ℕ} 0 1 = cc in absurd (omega arith)

-- ---- the first byte decides
module _ (limit : ℕ) where
  pub natural-digits : (l : List ℕ) → 0 < length l → (get_or l 0 0 ≡ 48 → ⊥) → is_digit (get_or l 0 0) ≡ true → read_natural limit l ≡ at_most limit (read_digits 0 l)
  unfolding read_natural
  natural-digits [] h n e = absurd (omega arith)
  natural-digits (b ∷ l) h n e = rw (ne_eqb b 48 n, e)

  found_at_most : (w : Read ℕ) (v : ℕ) (m : List ℕ) → at_most limit w ≡ read_as v m → v ≤ limit
  found_at_most bad v m e = let z : ◌≡◌ {A = ℕ} 0 1 = cc in absurd (omega arith)
  found_at_most (read_as x k) v m e = go (leb x limit) refl e
    where
      go : (t : Bool) → leb x limit ≡ t → cond t (read_as x k) bad ≡ read_as v m → v ≤ limit
      go true p q = let h : x ≡ v = cc in omega (arith, leb-true x limit p)
      go false p q = let z : ◌≡◌ {A = ℕ} 0 1 = cc in absurd (omega arith)

  -- a number that is read is at most the limit
  pub natural_at_most : (l : List ℕ) (v : ℕ) (m : List ℕ) → read_natural limit l ≡ read_as v m → v ≤ limit
  unfolding read_natural
  natural_at_most [] v m e = let z : ◌≡◌ {A = ℕ} 0 1 = cc in absurd (omega arith)
  natural_at_most (b ∷ l) v m e = first (eqb b 48) (is_digit b) e
    where
      first : (s t : Bool) → cond s (read_as 0 l) (cond t (at_most limit (read_digits 0 (b ∷ l))) bad) ≡ read_as v m → v ≤ limit
      first true t q = let h : 0 ≡ v = cc in omega arith
      first false true q = found_at_most (read_digits 0 (b ∷ l)) v m q
      first false false q = let z : ◌≡◌ {A = ℕ} 0 1 = cc in absurd (omega arith)

-- ---- a minus, or none
pub integer_negative : (l : List ℕ) → 0 < length l → get_or l 0 0 ≡ 45 → read_integer l ≡ negated (read_natural largest_magnitude (drop 1 l))
unfolding read_integer
integer_negative [] h e = absurd (omega arith)
integer_negative (b ∷ l) h e = rw (eq-eqb b 45 e)

pub integer_positive : (l : List ℕ) → 0 < length l → (get_or l 0 0 ≡ 45 → ⊥) → read_integer l ≡ unsigned (read_natural largest_number l)
unfolding read_integer
integer_positive [] h e = absurd (omega arith)
integer_positive (b ∷ l) h e = rw (ne_eqb b 45 e)

pub negated_some : (m : ℕ) (l : List ℕ) → (m ≡ 0 → ⊥) → negated (read_as m l) ≡ read_as (neg_ℤ (pos m)) l
negated_some zero l h = absurd (h refl)
negated_some (suc m) l h = refl

pub negated-zero : (m : ℕ) (l : List ℕ) → m ≡ 0 → negated (read_as m l) ≡ bad
negated-zero zero l h = refl
negated-zero (suc m) l h = absurd (omega arith)
