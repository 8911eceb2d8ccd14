-- Fractions, computed. Assumes nothing.
use mathlib.Core.Path.{◌≡◌, refl}
use lib.IntN.{pos, negsuc}
use Rattle.rounding.specs.Rounding.{round}
use Rattle.fractions.specs.Fraction.{whole, ◌+ᶠ◌, ◌-ᶠ◌, ◌×ᶠ◌, ◌/ᶠ◌, sumᶠ, to_whole}

-- 1/2 + 1/3 is 5/6, and 1/2 - 4/3 is -5/6
added : to_whole (6 ×ᶠ (whole (pos 1) /ᶠ 2 +ᶠ whole (pos 1) /ᶠ 3)) ≡ pos 5
unfolding round
added = refl

taken : to_whole (6 ×ᶠ (whole (pos 1) /ᶠ 2 -ᶠ 4 ×ᶠ whole (pos 1) /ᶠ 3)) ≡ negsuc 4
unfolding round
taken = refl

-- 1/4 + 1/4 + 1/4 is rounded to 1
three_quarters : to_whole (sumᶠ 3 (λ i. whole (pos 1) /ᶠ 4)) ≡ pos 1
unfolding round sumᶠ
three_quarters = refl
