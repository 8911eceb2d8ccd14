-- Linear expressions over ℤ: `Linear` is an expression over numbered unknowns, `value` its value.
use mathlib.Core.List.{List, [], ◌∷◌}
use Prim.Native.Nat.{ℕ, zero, suc}
use lib.IntN.{ℤ, pos, ◌+ℤ◌, ◌-ℤ◌, ◌*ℤ◌}

infixl 6 ◌⊕◌
infixl 6 ◌⊖◌
infixl 7 ◌⊙◌
pub data Linear : Type 0 where
  at : ℕ → Linear
  whole : ℤ → Linear
  ◌⊕◌ : Linear → Linear → Linear
  ◌⊖◌ : Linear → Linear → Linear
  ◌⊙◌ : ℤ → Linear → Linear

-- the i-th unknown
abbrev pub nth : List ℤ → ℕ → ℤ
nth [] i = pos 0
nth (x ∷ ρ) zero = x
nth (x ∷ ρ) (suc i) = nth ρ i

abbrev pub value : Linear → List ℤ → ℤ
value (at i) ρ = nth ρ i
value (whole k) ρ = k
value (a ⊕ b) ρ = value a ρ +ℤ value b ρ
value (a ⊖ b) ρ = value a ρ -ℤ value b ρ
value (k ⊙ a) ρ = k *ℤ value a ρ
