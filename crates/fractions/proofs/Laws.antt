-- Rules of `Equals`: each operation keeps the denominator d, so a rule written in fractions is tied to whole numbers over one denominator by following its
-- own words. Rounding depends on the value alone. Assumes nothing.
use mathlib.Core.Path.{◌≡◌, refl, sym, ap, ap₂, ◌∙◌}
use mathlib.Core.List.{[], ◌∷◌}
use Prim.Native.Nat.{ℕ, zero, suc, ◌*◌, ◌<◌}
use native.Mathlib.Nat.{mul-pos, eq_of_mul-eq-mul_left}
use native.Mathlib.Omega.{arith}
use lib.IntN.{ℤ, pos, ◌+ℤ◌, ◌-ℤ◌, ◌*ℤ◌, *ℤ_comm, zero-*ℤ}
use Rattle.integers.specs.Sum.{sum}
use Rattle.integers.proofs.Linear.{at}
use Rattle.integers.proofs.Order.{up, dn, up_mul, dn_mul, eq_by}
use Rattle.integers.proofs.Polynomial.{var, ◌⊞◌, ◌⊟◌, ◌⊠◌, same}
use Rattle.rounding.specs.Rounding.{round}
use Rattle.rounding.proofs.Laws.{round_value}
use Rattle.fractions.specs.Fraction.{Fraction, whole, ◌+ᶠ◌, ◌-ᶠ◌, ◌×ᶠ◌, ◌/ᶠ◌, sumᶠ, to_whole, Equals, Same}
use Rattle.fractions.proofs.Examples

-- ---- rounding
pub to_whole_equals : {x : Fraction} {z : ℤ} {d : ℕ} → 0 < d → Equals x z d → to_whole x ≡ round z d
to_whole_equals {x} {z} {d} h i =
    round_value x.num z x.den d i.some h (mul-pos i.some h) (*ℤ_comm (pos d) x.num ∙ i.value ∙ *ℤ_comm z (pos x.den))

-- ---- the operations
pub equals_whole : (a : ℤ) → Equals (whole a) a 1
equals_whole a = record { some = omega arith; value = refl }

pub equals_cong : {x : Fraction} {z w : ℤ} {d e : ℕ} → z ≡ w → d ≡ e → Equals x z d → Equals x w e
equals_cong {x} {z} {w} {d} {e} p q i =
    record { some = i.some; value = ap (λ (t : ℕ). x.num *ℤ pos t) (sym q) ∙ i.value ∙ ap (λ (t : ℤ). t *ℤ pos x.den) p }

-- over k times the denominator
pub equals_scaled : {x : Fraction} {z : ℤ} {d : ℕ} (k : ℕ) → Equals x z d → Equals x (pos k *ℤ z) (k * d)
equals_scaled {x} {z} {d} k i =
    record {
      some = i.some;
      value =
          same (var 0 ⊠ (var 1 ⊠ var 2)) (var 1 ⊠ (var 0 ⊠ var 2)) (x.num ∷ pos k ∷ pos d ∷ []) refl
          ∙ ap (λ (t : ℤ). pos k *ℤ t) i.value
          ∙ same (var 1 ⊠ (var 0 ⊠ var 2)) ((var 1 ⊠ var 0) ⊠ var 2) (z ∷ pos k ∷ pos x.den ∷ []) refl;
    }

module _ {x y : Fraction} {z w : ℤ} {d : ℕ} (i : Equals x z d) (j : Equals y w d) where
  pub equals_add : Equals (x +ᶠ y) (z +ℤ w) d
  equals_add =
      record {
        some = mul-pos i.some j.some;
        value =
            same ((var 0 ⊠ var 1 ⊞ var 2 ⊠ var 3) ⊠ var 4) ((var 0 ⊠ var 4) ⊠ var 1 ⊞ (var 2 ⊠ var 4) ⊠ var 3) (x.num ∷ pos y.den ∷ y.num ∷ pos x.den ∷ pos d ∷ []) refl
            ∙ ap₂ (λ (s t : ℤ). s *ℤ pos y.den +ℤ t *ℤ pos x.den) i.value j.value
            ∙ same ((var 0 ⊠ var 2) ⊠ var 3 ⊞ (var 1 ⊠ var 3) ⊠ var 2) ((var 0 ⊞ var 1) ⊠ (var 2 ⊠ var 3)) (z ∷ w ∷ pos x.den ∷ pos y.den ∷ []) refl;
      }

  pub equals_sub : Equals (x -ᶠ y) (z -ℤ w) d
  equals_sub =
      record {
        some = mul-pos i.some j.some;
        value =
            same ((var 0 ⊠ var 1 ⊟ var 2 ⊠ var 3) ⊠ var 4) ((var 0 ⊠ var 4) ⊠ var 1 ⊟ (var 2 ⊠ var 4) ⊠ var 3) (x.num ∷ pos y.den ∷ y.num ∷ pos x.den ∷ pos d ∷ []) refl
            ∙ ap₂ (λ (s t : ℤ). s *ℤ pos y.den -ℤ t *ℤ pos x.den) i.value j.value
            ∙ same ((var 0 ⊠ var 2) ⊠ var 3 ⊟ (var 1 ⊠ var 3) ⊠ var 2) ((var 0 ⊟ var 1) ⊠ (var 2 ⊠ var 3)) (z ∷ w ∷ pos x.den ∷ pos y.den ∷ []) refl;
      }

pub equals_times : {x : Fraction} {z : ℤ} {d : ℕ} (k : ℕ) → Equals x z d → Equals (k ×ᶠ x) (pos k *ℤ z) d
equals_times {x} {z} {d} k i =
    record {
      some = i.some;
      value =
          same ((var 0 ⊠ var 1) ⊠ var 2) (var 0 ⊠ (var 1 ⊠ var 2)) (pos k ∷ x.num ∷ pos d ∷ []) refl
          ∙ ap (λ (t : ℤ). pos k *ℤ t) i.value
          ∙ same (var 0 ⊠ (var 1 ⊠ var 2)) ((var 0 ⊠ var 1) ⊠ var 2) (pos k ∷ z ∷ pos x.den ∷ []) refl;
    }

-- x is n z / d, divided by n
pub equals_over : {x : Fraction} {y : ℤ} {d : ℕ} (n : ℕ) (z : ℤ) → 0 < n → y ≡ pos n *ℤ z → Equals x y d → Equals (x /ᶠ n) z d
equals_over {x} {y} {d} n z h e i =
    record {
      some = mul-pos i.some h;
      value = i.value ∙ ap (λ (t : ℤ). t *ℤ pos x.den) e ∙ same ((var 0 ⊠ var 1) ⊠ var 2) (var 1 ⊠ (var 2 ⊠ var 0)) (pos n ∷ z ∷ pos x.den ∷ []) refl;
    }

-- the quotient by n is over n times the denominator
pub equals_divided : {x : Fraction} {z : ℤ} {d : ℕ} (n : ℕ) → 0 < n → Equals x z d → Equals (x /ᶠ n) z (n * d)
equals_divided {x} {z} {d} n h i = equals_over n z h refl (equals_scaled n i)

pub equals_sum : (n : ℕ) (f : ℕ → Fraction) (g : ℕ → ℤ) (d : ℕ) → ((i : ℕ) → i < n → Equals (f i) (g i) d) → Equals (sumᶠ n f) (sum n g) d
unfolding sumᶠ sum
equals_sum zero f g d h = record { some = omega arith; value = zero-*ℤ (pos d) }
equals_sum (suc n) f g d h = equals_add (equals_sum n f g d (λ i k. h i (omega arith))) (h n (omega arith))

-- ---- a common factor goes out
cancel : (d : ℕ) (a b : ℤ) → 0 < d → pos d *ℤ a ≡ pos d *ℤ b → a ≡ b
cancel d a b h e =
    let p : up a ≡ up b = eq_of_mul-eq-mul_left d h (up a) (up b) (sym (up_mul d a) ∙ ap up e ∙ up_mul d b) in
    let q : dn a ≡ dn b = eq_of_mul-eq-mul_left d h (dn a) (dn b) (sym (dn_mul d a) ∙ ap dn e ∙ dn_mul d b) in
    eq_by (at 0) (at 1) (a ∷ b ∷ []) (omega arith)

pub equals_reduced : {x : Fraction} (k : ℕ) (z : ℤ) (d : ℕ) → 0 < k → Equals x (pos k *ℤ z) (k * d) → Equals x z d
equals_reduced {x} k z d h i =
    record {
      some = i.some;
      value = cancel k (x.num *ℤ pos d) (z *ℤ pos x.den) h
          (same (var 0 ⊠ (var 1 ⊠ var 2)) (var 1 ⊠ (var 0 ⊠ var 2)) (pos k ∷ x.num ∷ pos d ∷ []) refl
          ∙ i.value
          ∙ same ((var 0 ⊠ var 1) ⊠ var 2) (var 0 ⊠ (var 1 ⊠ var 2)) (pos k ∷ z ∷ pos x.den ∷ []) refl);
    }

pub same_of_equals : {x y : Fraction} {z : ℤ} {d : ℕ} → 0 < d → Equals x z d → Equals y z d → Same x y
same_of_equals {x} {y} {z} {d} h i j =
    record {
      left = i.some;
      right = j.some;
      same = cancel d (x.num *ℤ pos y.den) (y.num *ℤ pos x.den) h
          (same (var 0 ⊠ (var 1 ⊠ var 2)) ((var 1 ⊠ var 0) ⊠ var 2) (pos d ∷ x.num ∷ pos y.den ∷ []) refl
          ∙ ap (λ (t : ℤ). t *ℤ pos y.den) i.value
          ∙ same ((var 0 ⊠ var 1) ⊠ var 2) ((var 0 ⊠ var 2) ⊠ var 1) (z ∷ pos x.den ∷ pos y.den ∷ []) refl
          ∙ ap (λ (t : ℤ). t *ℤ pos x.den) (sym j.value)
          ∙ same ((var 1 ⊠ var 0) ⊠ var 2) (var 0 ⊠ (var 1 ⊠ var 2)) (pos d ∷ y.num ∷ pos x.den ∷ []) refl);
    }

-- ---- a fraction has one numerator over a denominator, and fractions of one value have the same
pub equals_one : {x : Fraction} (y z : ℤ) {d : ℕ} → Equals x y d → Equals x z d → y ≡ z
equals_one {x} y z i j = cancel x.den y z i.some (*ℤ_comm (pos x.den) y ∙ sym i.value ∙ j.value ∙ *ℤ_comm z (pos x.den))

pub equals_same : {x y : Fraction} {z : ℤ} {d : ℕ} → Same x y → Equals y z d → Equals x z d
equals_same {x} {y} {z} {d} r i = record {
  some = r.left;
  value = cancel y.den (x.num *ℤ pos d) (z *ℤ pos x.den) r.right
      (same (var 0 ⊠ (var 1 ⊠ var 2)) ((var 1 ⊠ var 0) ⊠ var 2) (pos y.den ∷ x.num ∷ pos d ∷ []) refl
      ∙ ap (λ (t : ℤ). t *ℤ pos d) r.same
      ∙ same ((var 0 ⊠ var 1) ⊠ var 2) ((var 0 ⊠ var 2) ⊠ var 1) (y.num ∷ pos x.den ∷ pos d ∷ []) refl
      ∙ ap (λ (t : ℤ). t *ℤ pos x.den) i.value
      ∙ same ((var 0 ⊠ var 1) ⊠ var 2) (var 1 ⊠ (var 0 ⊠ var 2)) (z ∷ pos y.den ∷ pos x.den ∷ []) refl);
}
