-- What the answer to each case of reading a number says. Assumes nothing.
use Rattle.std.proofs.Common.{◌≡◌, ℕ, ◌+◌, ◌-◌, ◌≤◌, ◌<◌, List, [], ◌∷◌, length, get_or, take, drop, Option, Some, None, refl, sym, ap, ◌∙◌, subst, arith, length-drop}
use native.Mathlib.Nat.{add_comm}
use lib.IntN.{ℤ, pos, neg_ℤ}
use lib.Seq.{take_all, drop-drop}
use borrow.Author.Tests.{eq-eqb, ne_eqb, le-leb, lt-leb}
use Rattle.decimalform.specs.Decimal.{Read, read_as, bad, read_digits, at_most, read_natural, negated, unsigned, read_integer, largest_number, largest_magnitude}
use Rattle.decimalform.proofs.Reading.{digits_above, natural-digits, integer_negative, integer_positive, negated_some}
use Rattle.decimal.specs.declared.Read as declared
use Rattle.decimal.specs.Answers.{read_of, used, Gives, GivesNumber}

-- no answer, where the text says nothing
pub gives_none : {V A : Type 0} {is : V → A} {r : Option (declared.Read V)} {l : List ℕ} {what : Read A} → r ≡ None → bad ≡ what → Gives is r l what
gives_none e p = rw e (record { reads = p; within = omega arith })

-- the part of a slice from a on
pub part_rest : (l : List ℕ) (a : ℕ) → take (length l - a) (drop a l) ≡ drop a l
part_rest l a = take_all (length l - a) (drop a l) (omega (arith, length-drop a l))

-- the same answer for it
pub gives_rest : {V A : Type 0} {is : V → A} {r : Option (declared.Read V)} (read : List ℕ → Read A) (l : List ℕ) (a : ℕ) → Gives is r (take (length l - a) (drop a l)) (read (take (length l - a) (drop a l))) → Gives is r (drop a l) (read (drop a l))
gives_rest {V} {A} {is} {r} read l a g = subst (λ (p : List ℕ). Gives is r p (read p)) (part_rest l a) g

-- the digits have ended at i, with the value v
pub digits_given : (l : List ℕ) (limit i v : ℕ) → i ≤ length l → v ≤ limit → read_digits 0 l ≡ read_digits v (drop i l) → read_digits v (drop i l) ≡ read_as v (drop i l)
    → GivesNumber (Some (record { value = v; used = i })) l (at_most limit (read_digits 0 l))
digits_given l limit i v h k e s = record { reads = sym (ap (at_most limit) (e ∙ s) ∙ rw (le-leb v limit k)); within = h }

-- the digits are above the limit
pub digits_refused : (l m : List ℕ) (limit v : ℕ) → limit < v → read_digits 0 l ≡ read_digits v m → GivesNumber {N = ℕ} None l (at_most limit (read_digits 0 l))
digits_refused l m limit v h e = record { reads = sym (ap (at_most limit) e ∙ digits_above limit m v h); within = omega arith }

-- ---- the first byte decides
module _ (limit : ℕ) where
  pub natural_none : (l : List ℕ) → length l ≡ 0 → GivesNumber {N = ℕ} None l (read_natural limit l)
  unfolding read_natural
  natural_none [] e = record { reads = refl; within = omega arith }
  natural_none (b ∷ l) e = absurd (omega arith)

  pub natural_zero : (l : List ℕ) → 0 < length l → get_or l 0 0 ≡ 48 → GivesNumber (Some (record { value = 0; used = 1 })) l (read_natural limit l)
  unfolding read_natural
  natural_zero [] h e = absurd (omega arith)
  natural_zero (b ∷ l) h e = record { reads = rw (eq-eqb b 48 e); within = h }

  pub natural_digits : (l : List ℕ) → 0 < length l → 48 < get_or l 0 0 → get_or l 0 0 ≤ 57 → read_natural limit l ≡ at_most limit (read_digits 0 l)
  natural_digits l h a b = natural-digits limit l h (omega arith) (rw (le-leb 48 (get_or l 0 0) (omega arith), le-leb (get_or l 0 0) 57 b))

  pub natural_below : (l : List ℕ) → 0 < length l → get_or l 0 0 < 48 → GivesNumber {N = ℕ} None l (read_natural limit l)
  unfolding read_natural
  natural_below [] h e = absurd (omega arith)
  natural_below (b ∷ l) h e = record { reads = rw (ne_eqb b 48 (omega arith), lt-leb 48 b e); within = omega arith }

  pub natural_above : (l : List ℕ) → 0 < length l → 57 < get_or l 0 0 → GivesNumber {N = ℕ} None l (read_natural limit l)
  unfolding read_natural
  natural_above [] h e = absurd (omega arith)
  natural_above (b ∷ l) h e = record { reads = rw (ne_eqb b 48 (omega arith), le-leb 48 b (omega arith), lt-leb b 57 e); within = omega arith }

-- ---- a number with its sign
module _ {l : List ℕ} {m : declared.Read ℕ} {z : ℤ} where
  pub negative_found : GivesNumber (Some m) l (read_natural largest_magnitude l) → (m.value ≡ 0 → ⊥) → z ≡ neg_ℤ (pos m.value)
      → GivesNumber (Some (record { value = z; used = m.used })) l (negated (read_natural largest_magnitude l))
  negative_found g k q = record { reads = ap (λ (x : ℤ). read_as x (drop m.used l)) q ∙ sym (negated_some m.value (drop m.used l) k) ∙ ap negated g.reads; within = g.within }

  pub positive_found : GivesNumber (Some m) l (read_natural largest_number l) → z ≡ pos m.value → GivesNumber (Some (record { value = z; used = m.used })) l (unsigned (read_natural largest_number l))
  positive_found g q = record { reads = ap (λ (x : ℤ). read_as x (drop m.used l)) q ∙ ap unsigned g.reads; within = g.within }

-- ---- a minus, or none
pub integer_none : (l : List ℕ) → length l ≡ 0 → bad ≡ read_integer l
unfolding read_integer
integer_none [] e = refl
integer_none (b ∷ l) e = absurd (omega arith)

module _ (l : List ℕ) (h : 0 < length l) (e : get_or l 0 0 ≡ 45) {r : Option (declared.Read ℤ)}
    (g : GivesNumber r (take (length l - 1) (drop 1 l)) (negated (read_natural largest_magnitude (take (length l - 1) (drop 1 l))))) where
  after_minus : GivesNumber r (drop 1 l) (read_integer l)
  after_minus = rw (integer_negative l h e) (gives_rest (λ p. negated (read_natural largest_magnitude p)) l 1 g)

  pub minus_bad : r ≡ None → bad ≡ read_integer l
  minus_bad p = sym (ap (λ o. read_of (λ (z : ℤ). z) o (drop 1 l)) p) ∙ after_minus.reads

  pub minus_found : {z : declared.Read ℤ} → r ≡ Some z → GivesNumber (Some (record { value = z.value; used = z.used + 1 })) l (read_integer l)
  minus_found {z} p =
      let d : drop z.used (drop 1 l) ≡ drop (z.used + 1) l = drop-drop z.used 1 l ∙ ap (λ (j : ℕ). drop j l) (add_comm 1 z.used) in
      let w : z.used ≤ length (drop 1 l) = subst (λ o. used o ≤ length (drop 1 l)) p after_minus.within in
      record { reads = ap (read_as z.value) (sym d) ∙ sym (ap (λ o. read_of (λ (x : ℤ). x) o (drop 1 l)) p) ∙ after_minus.reads; within = omega (arith, length-drop 1 l) }

pub no_minus : (l : List ℕ) → (get_or l 0 0 ≡ 45 → ⊥) → {r : Option (declared.Read ℤ)} → GivesNumber r l (unsigned (read_natural largest_number l)) → GivesNumber r l (read_integer l)
unfolding read_integer read_natural
no_minus [] e g = g
no_minus (b ∷ l) e g = rw (integer_positive (b ∷ l) (omega arith) e) g
