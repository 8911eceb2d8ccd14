-- Exact fractions and their rounding. On an accepted net every denominator is above 0.
use Rattle.std.specs.Prelude.{◌≡◌, ℕ, zero, suc, ◌*◌, ◌<◌, ℤ, pos, ◌+ℤ◌, ◌-ℤ◌, ◌*ℤ◌}
use Rattle.rounding.specs.Rounding.{round}

infixl 6 ◌+ᶠ◌
infixl 6 ◌-ᶠ◌
infixl 7 ◌×ᶠ◌
infixl 7 ◌/ᶠ◌
-- num / den
pub record Fraction : Type 0 where
  pub num : ℤ
  pub den : ℕ

abbrev pub whole : ℤ → Fraction
whole a = record { num = a; den = 1 }

abbrev pub ◌+ᶠ◌ : Fraction → Fraction → Fraction
x +ᶠ y = record { num = x.num *ℤ pos y.den +ℤ y.num *ℤ pos x.den; den = x.den * y.den }

abbrev pub ◌-ᶠ◌ : Fraction → Fraction → Fraction
x -ᶠ y = record { num = x.num *ℤ pos y.den -ℤ y.num *ℤ pos x.den; den = x.den * y.den }

-- a natural times a fraction, and a fraction divided by a natural
abbrev pub ◌×ᶠ◌ : ℕ → Fraction → Fraction
k ×ᶠ x = record { num = pos k *ℤ x.num; den = x.den }

abbrev pub ◌/ᶠ◌ : Fraction → ℕ → Fraction
x /ᶠ n = record { num = x.num; den = x.den * n }

-- f 0 + f 1 + .., of n terms
unfoldable pub sumᶠ : ℕ → (ℕ → Fraction) → Fraction
sumᶠ zero f = whole (pos 0)
sumᶠ (suc n) f = sumᶠ n f +ᶠ f n

-- rounded once
abbrev pub to_whole : Fraction → ℤ
to_whole x = round x.num x.den

-- x is z / d
pub record Equals (x : Fraction) (z : ℤ) (d : ℕ) : Type 0 where
  pub some : 0 < x.den
  pub value : x.num *ℤ pos d ≡ z *ℤ pos x.den

-- two fractions of one value
pub record Same (x y : Fraction) : Type 0 where
  pub left : 0 < x.den
  pub right : 0 < y.den
  pub same : x.num *ℤ pos y.den ≡ y.num *ℤ pos x.den
