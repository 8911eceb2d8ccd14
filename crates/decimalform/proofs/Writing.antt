-- Writing a number: its text by its last digit, its length, and one text stored after another. Assumes nothing.
use mathlib.Core.Path.{◌≡◌, refl, sym, ap, ◌∙◌}
use mathlib.Core.Bool.{true, false}
use mathlib.Core.List.{List, [], ◌∷◌, ◌++◌}
use Prim.Native.Nat.{ℕ, zero, suc, ◌+◌, ◌-◌, ◌/◌, ◌%◌, ◌^◌, ◌≤◌, ◌<◌}
use native.Mathlib.Nat.{add-zero, add-suc, suc-add}
use native.Mathlib.Numerals.{add-one}
use native.Mathlib.Decide.{dec_lt}
use native.Mathlib.Omega.{arith}
use lib.IntN.{ℤ, pos, negsuc, nat_abs}
use lib.Signed.{lt_z}
use lib.ListN.{length, set, length-append}
use lib.Seq.{sets}
use borrow.Author.Tests.{lt-ltb, le-ltb, ltb-true}
use Rattle.decimalform.specs.Decimal.{digits, natural_text, integer_text}
use Rattle.decimalform.specs.Stored.{Stored}

-- ---- one text stored after another
pub sets_after : {A : Type 0} (s d t : List A) (at : ℕ) → sets (sets d at s) (at + length s) t ≡ sets d at (s ++ t)
sets_after [] d t at = ap (λ (k : ℕ). sets d k t) (add-zero at)
sets_after (x ∷ s) d t at = ap (λ (k : ℕ). sets (sets (set d at x) (suc at) s) k t) (add-suc at (length s) ∙ sym (suc-add at (length s))) ∙ sets_after s (set d at x) t (suc at)

pub stored_then : (d e o : List ℕ) (at r q : ℕ) (s t : List ℕ) → Stored d e at r s → Stored e o r q t → Stored d o at q (s ++ t)
stored_then d e o at r q s t v w =
    let a = v.end in
    let b = w.end in
    record { bytes = w.bytes ∙ rw (v.end, v.bytes) (sets_after s d t at); end = omega (arith, length-append s t) }

-- ---- the digits of n do not depend on the number of divisions allowed
digits_small : (f n : ℕ) → n < 10 → digits f n ≡ (48 + n) ∷ []
digits_small zero n h = refl
digits_small (suc f) n h = rw (lt-ltb n 10 h)

digits_large : (f n : ℕ) → 10 ≤ n → digits (suc f) n ≡ digits f (n / 10) ++ ((48 + n % 10) ∷ [])
digits_large f n h = rw (le-ltb n 10 h)

digits_same : (f g n : ℕ) → n ≤ f → n ≤ g → digits f n ≡ digits g n
digits_same zero g n h k = sym (digits_small g n (omega arith))
digits_same (suc f) zero n h k = digits_small (suc f) n (omega arith)
digits_same (suc f) (suc g) n h k = go (dec_lt n 10) (λ l. digits_same f g (n / 10) (omega arith) (omega arith))
  where
    go : Dec (n < 10) → (10 ≤ n → digits f (n / 10) ≡ digits g (n / 10)) → digits (suc f) n ≡ digits (suc g) n
    go (yes l) e = digits_small (suc f) n l ∙ sym (digits_small (suc g) n l)
    go (no l) e = digits_large f n (omega arith) ∙ ap (λ (s : List ℕ). s ++ ((48 + n % 10) ∷ [])) (e (omega arith)) ∙ sym (digits_large g n (omega arith))

-- ---- the text of a natural
pub text_small : (n : ℕ) → n < 10 → natural_text n ≡ (48 + n) ∷ []
unfolding natural_text
text_small n h = digits_small n n h

pub text_large : (n : ℕ) → 10 ≤ n → natural_text n ≡ natural_text (n / 10) ++ ((48 + n % 10) ∷ [])
unfolding natural_text
text_large n h =
    let e : n ≡ suc (n - 1) = omega arith in
    digits_same n (suc (n - 1)) n (omega arith) (omega arith)
    ∙ digits_large (n - 1) n h
    ∙ ap (λ (s : List ℕ). s ++ ((48 + n % 10) ∷ [])) (digits_same (n - 1) (n / 10) (n / 10) (omega arith) (omega arith))

pub length_large : (n : ℕ) → 10 ≤ n → length (natural_text n) ≡ length (natural_text (n / 10)) + 1
length_large n h = ap length (text_large n h) ∙ length-append (natural_text (n / 10)) ((48 + n % 10) ∷ [])

-- the loop's two cases: a text of one digit, and one digit more
pub stored_small : (d : List ℕ) (at n : ℕ) → n < 10 → Stored d (set d at (48 + n)) at (at + 1) (natural_text n)
stored_small d at n h = rw (text_small n h) (record { bytes = refl; end = refl })

pub stored_large : (d e : List ℕ) (at n r : ℕ) → 10 ≤ n → Stored d e at r (natural_text (n / 10))
    → Stored d (set e r (48 + n % 10)) at (r + 1) (natural_text n)
stored_large d e at n r h w =
    let l = length_large n h in
    let p = w.end in
    record { bytes = rw (w.end, w.bytes, text_large n h) (sets_after (natural_text (n / 10)) d ((48 + n % 10) ∷ []) at); end = omega arith }

-- ---- the text of an integer
pub text_negative : (z : ℤ) → lt_z z (pos 0) ≡ true → integer_text z ≡ 45 ∷ natural_text (nat_abs z)
unfolding integer_text
text_negative (pos n) e = let h : n < 0 = ltb-true n 0 e in let z : ⊥ = omega arith in absurd z
text_negative (negsuc n) e = refl

pub text_positive : (z : ℤ) → lt_z z (pos 0) ≡ false → integer_text z ≡ natural_text (nat_abs z)
unfolding integer_text
text_positive (pos n) e = refl
text_positive (negsuc n) e = let z : ◌≡◌ {A = ℕ} 0 1 = cc in absurd (omega arith)

-- z is stored: a minus and its digits, or its digits
pub stored_negative : (d o : List ℕ) (at r m : ℕ) (z : ℤ) → lt_z z (pos 0) ≡ true → m ≡ nat_abs z → Stored (set d at 45) o (at + 1) r (natural_text m) → Stored d o at r (integer_text z)
stored_negative d o at r m z t e w =
    let l : at + suc (length (natural_text (nat_abs z))) ≡ at + 1 + length (natural_text (nat_abs z)) = omega arith in
    rw (text_negative z t, ← e) (record { bytes = w.bytes ∙ ap (λ (k : ℕ). sets (set d at 45) k (natural_text m)) (add-one at); end = w.end ∙ rw e (sym l) })

pub stored_positive : (d o : List ℕ) (at r m : ℕ) (z : ℤ) → lt_z z (pos 0) ≡ false → m ≡ nat_abs z → Stored d o at r (natural_text m) → Stored d o at r (integer_text z)
stored_positive d o at r m z t e w = rw (text_positive z t, ← e) w

-- ---- lengths
digits-length : (k f n : ℕ) → n < 10 ^ suc k → length (digits f n) ≤ suc k
digits-length k zero n h = omega arith
digits-length zero (suc f) n h = rw (digits_small (suc f) n h) (omega arith)
digits-length (suc k) (suc f) n h = go (dec_lt n 10) (digits-length k f (n / 10) (omega arith))
  where
    go : Dec (n < 10) → length (digits f (n / 10)) ≤ suc k → length (digits (suc f) n) ≤ suc (suc k)
    go (yes l) e = rw (digits_small (suc f) n l) (omega arith)
    go (no l) e = rw (digits_large f n (omega arith)) (omega (arith, length-append (digits f (n / 10)) ((48 + n % 10) ∷ [])))

-- a number below 2^32 has at most ten digits, one below 2^64 twenty, a byte three
pub length-natural : (n : ℕ) → n < 4294967296 → length (natural_text n) ≤ 10
unfolding natural_text
length-natural n h = digits-length 9 n n (omega arith)

pub length_long : (n : ℕ) → n < 18446744073709551616 → length (natural_text n) ≤ 20
unfolding natural_text
length_long n h = digits-length 19 n n (omega arith)

pub length_byte : (n : ℕ) → n < 256 → length (natural_text n) ≤ 3
unfolding natural_text
length_byte n h = digits-length 2 n n (omega arith)

pub length_integer : (z : ℤ) → nat_abs z < 4294967296 → length (integer_text z) ≤ 11
unfolding integer_text
length_integer (pos n) h = let l = length-natural n h in omega arith
length_integer (negsuc n) h = let l = length-natural (suc n) h in omega arith
