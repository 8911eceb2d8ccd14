-- A number that is read stands at the front as it is written. Assumes nothing.
use mathlib.Core.Path.{◌≡◌, refl, sym, ap, ◌∙◌}
use mathlib.Core.Bool.{Bool, true, false, cond, ◌&&◌}
use mathlib.Core.List.{List, [], ◌∷◌, ◌++◌, append_assoc}
use Prim.Native.Nat.{ℕ, zero, suc, ◌+◌, ◌*◌, ◌-◌, ◌/◌, ◌%◌, ◌≤◌, ◌<◌}
use native.Mathlib.Nat.{pos_of_ne-zero}
use native.Mathlib.Omega.{arith}
use lib.Dec.{leb, eqb}
use lib.IntN.{ℤ, pos, negsuc}
use lib.Signed.{mag}
use borrow.Author.Tests.{eqb-true, eq-eqb, leb-true}
use Rattle.decimalform.specs.Decimal.{Read, read_as, bad, natural_text, integer_text, is_digit, read_digits, at_most, read_natural, negated, unsigned, read_integer, largest_number, largest_magnitude}
use Rattle.decimalform.proofs.Reading.{digit_low, natural_at_most}
use Rattle.decimalform.proofs.Writing.{text_small, text_large}

digit_high : (b : ℕ) → is_digit b ≡ true → b ≤ 57
digit_high b e = go (leb 48 b) e
  where
    go : (t : Bool) → (t && leb b 57) ≡ true → b ≤ 57
    go true q = leb-true b 57 q
    go false q = let z : ◌≡◌ {A = ℕ} 0 1 = cc in absurd (omega arith)

-- the text of v, and one digit more
one_more_lem : (v b : ℕ) → 0 < v → is_digit b ≡ true → natural_text (v * 10 + (b - 48)) ≡ natural_text v ++ (b ∷ [])
one_more_lem v b h d =
    let l = digit_low b d in
    let k = digit_high b d in
    let q : (v * 10 + (b - 48)) / 10 ≡ v = omega arith in
    let r : 48 + (v * 10 + (b - 48)) % 10 ≡ b = omega arith in
    text_large (v * 10 + (b - 48)) (omega arith) ∙ rw (q, r)

-- digits after those of v
digits_found : (l : List ℕ) (v w : ℕ) (m : List ℕ) → 0 < v → read_digits v l ≡ read_as w m → natural_text v ++ l ≡ natural_text w ++ m
unfolding read_digits
digits_found [] v w m h e = let a : v ≡ w = cc in let b : [] ≡ m = cc in rw (a, b)
digits_found (b ∷ l) v w m h e = go (is_digit b) refl e (λ q. digits_found l (v * 10 + (b - 48)) w m (omega arith) q)
  where
    go : (t : Bool) → is_digit b ≡ t → cond t (read_digits (v * 10 + (b - 48)) l) (read_as v (b ∷ l)) ≡ read_as w m
        → (read_digits (v * 10 + (b - 48)) l ≡ read_as w m → natural_text (v * 10 + (b - 48)) ++ l ≡ natural_text w ++ m) → natural_text v ++ (b ∷ l) ≡ natural_text w ++ m
    go true d q more = sym (ap (λ (s : List ℕ). s ++ l) (one_more_lem v b h d) ∙ append_assoc (natural_text v) (b ∷ []) l) ∙ more q
    go false d q more = let a : v ≡ w = cc in let c : b ∷ l ≡ m = cc in rw (a, c)

at_most_found : (limit : ℕ) (q : Read ℕ) (v : ℕ) (m : List ℕ) → at_most limit q ≡ read_as v m → q ≡ read_as v m
at_most_found limit bad v m e = e
at_most_found limit (read_as x k) v m e = go (leb x limit) e
  where
    go : (t : Bool) → cond t (read_as x k) bad ≡ read_as v m → read_as x k ≡ read_as v m
    go true q = q
    go false q = let z : ◌≡◌ {A = ℕ} 0 1 = cc in absurd (omega arith)

-- a number above 0 begins with its first digit
first_found : (b : ℕ) (l : List ℕ) (v : ℕ) (m : List ℕ) → (b ≡ 48 → ⊥) → is_digit b ≡ true → read_digits 0 (b ∷ l) ≡ read_as v m → b ∷ l ≡ natural_text v ++ m
unfolding read_digits
first_found b l v m n d e =
    let low = digit_low b d in
    let high = digit_high b d in
    let q : 0 * 10 + (b - 48) ≡ b - 48 = omega arith in
    let r : 48 + (b - 48) ≡ b = omega arith in
    let some : 0 < b - 48 = pos_of_ne-zero (λ z. n (omega arith)) in
    let t : read_digits (b - 48) l ≡ read_as v m = rw (d, q) at e in
    let one : natural_text (b - 48) ≡ b ∷ [] = text_small (b - 48) (omega arith) ∙ ap (λ (k : ℕ). k ∷ []) r in
    ap (λ (s : List ℕ). s ++ l) (sym one) ∙ digits_found l (b - 48) v m some t

pub natural_found : (limit : ℕ) (l : List ℕ) (v : ℕ) (m : List ℕ) → read_natural limit l ≡ read_as v m → l ≡ natural_text v ++ m
unfolding read_natural
natural_found limit [] v m e = let z : ◌≡◌ {A = ℕ} 0 1 = cc in absurd (omega arith)
natural_found limit (b ∷ l) v m e = zero_first (eqb b 48) refl e
  where
    digit_first : (t : Bool) → is_digit b ≡ t → (b ≡ 48 → ⊥) → cond t (at_most limit (read_digits 0 (b ∷ l))) bad ≡ read_as v m → b ∷ l ≡ natural_text v ++ m
    digit_first true d n q = first_found b l v m n d (at_most_found limit (read_digits 0 (b ∷ l)) v m q)
    digit_first false d n q = let z : ◌≡◌ {A = ℕ} 0 1 = cc in absurd (omega arith)

    zero_first : (t : Bool) → eqb b 48 ≡ t → cond t (read_as 0 l) (cond (is_digit b) (at_most limit (read_digits 0 (b ∷ l))) bad) ≡ read_as v m → b ∷ l ≡ natural_text v ++ m
    zero_first true d q =
        let a : 0 ≡ v = cc in
        let c : l ≡ m = cc in
        let h : b ≡ 48 = eqb-true b 48 d in
        ap (λ (k : ℕ). k ∷ l) h ∙ rw (← a, ← c, text_small 0 (omega arith))
    zero_first false d q = digit_first (is_digit b) refl (λ h. let z = eq-eqb b 48 h in let y : ◌≡◌ {A = ℕ} 0 1 = cc in omega arith) q

-- the number after a minus
record Below (q : Read ℕ) (z : ℤ) (m : List ℕ) : Type 0 where
  below : ℕ
  is : z ≡ negsuc below
  number : q ≡ read_as (suc below) m

negated_found : (q : Read ℕ) (z : ℤ) (m : List ℕ) → negated q ≡ read_as z m → Below q z m
negated_found bad z m e = let y : ◌≡◌ {A = ℕ} 0 1 = cc in absurd (omega arith)
negated_found (read_as zero k) z m e = let y : ◌≡◌ {A = ℕ} 0 1 = cc in absurd (omega arith)
negated_found (read_as (suc n) k) z m e = let a : negsuc n ≡ z = cc in let b : k ≡ m = cc in record { below = n; is = sym a; number = rw b }

record Above (q : Read ℕ) (z : ℤ) (m : List ℕ) : Type 0 where
  value : ℕ
  is : z ≡ pos value
  number : q ≡ read_as value m

unsigned_found : (q : Read ℕ) (z : ℤ) (m : List ℕ) → unsigned q ≡ read_as z m → Above q z m
unsigned_found bad z m e = let y : ◌≡◌ {A = ℕ} 0 1 = cc in absurd (omega arith)
unsigned_found (read_as n k) z m e = let a : pos n ≡ z = cc in let b : k ≡ m = cc in record { value = n; is = sym a; number = rw b }

-- an integer that is read is one of signed 32 bits, and stands there as it is written
pub record IntegerFound (l : List ℕ) (z : ℤ) (m : List ℕ) : Type 0 where
  pub range : mag z ≤ largest_number
  pub text : l ≡ integer_text z ++ m

minus_found : (l : List ℕ) (z : ℤ) (m : List ℕ) → negated (read_natural largest_magnitude l) ≡ read_as z m → IntegerFound (45 ∷ l) z m
unfolding integer_text
minus_found l z m e =
    let b = negated_found (read_natural largest_magnitude l) z m e in
    let h = natural_at_most largest_magnitude l (suc b.below) m b.number in
    rw b.is (record { range = omega arith; text = ap (λ (s : List ℕ). 45 ∷ s) (natural_found largest_magnitude l (suc b.below) m b.number) })

plain_found : (l : List ℕ) (z : ℤ) (m : List ℕ) → unsigned (read_natural largest_number l) ≡ read_as z m → IntegerFound l z m
unfolding integer_text
plain_found l z m e =
    let a = unsigned_found (read_natural largest_number l) z m e in
    let h = natural_at_most largest_number l a.value m a.number in
    rw a.is (record { range = h; text = natural_found largest_number l a.value m a.number })

pub integer_found : (l : List ℕ) (z : ℤ) (m : List ℕ) → read_integer l ≡ read_as z m → IntegerFound l z m
unfolding read_integer
integer_found [] z m e = let y : ◌≡◌ {A = ℕ} 0 1 = cc in absurd (omega arith)
integer_found (b ∷ l) z m e = go (eqb b 45) refl e
  where
    go : (t : Bool) → eqb b 45 ≡ t → cond t (negated (read_natural largest_magnitude l)) (unsigned (read_natural largest_number (b ∷ l))) ≡ read_as z m → IntegerFound (b ∷ l) z m
    go true d q = let h : b ≡ 45 = eqb-true b 45 d in rw h (minus_found l z m q)
    go false d q = plain_found (b ∷ l) z m q
