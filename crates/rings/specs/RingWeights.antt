-- The virtual point in whole numbers: over near · n, as a formula and as a sum of weights, and over one denominator for all valences.
use Rattle.std.specs.Prelude.{cond, List, ℕ, ◌+◌, ◌-◌, ◌/◌, eqb, ltb, ℤ, pos, ◌+ℤ◌, ◌-ℤ◌, ◌*ℤ◌}
use Rattle.lists.specs.Tabulate.{tabulate}
use Rattle.integers.specs.Sum.{sum}
use Rattle.curve.specs.Weights.{Weights}
use Rattle.rings.specs.Scales.{valence_scale}

-- the formula of `virtual`, times near · n
unfoldable pub virtual_z : Weights → (n : ℕ) (l k : ℕ → ℤ) (j : ℕ) → ℤ
virtual_z w n l k j =
    pos w.near *ℤ (pos 4 *ℤ sum n l -ℤ pos n *ℤ (l (j + (n - 1)) +ℤ l j +ℤ l (j + 1)))
    +ℤ pos w.far *ℤ (pos n *ℤ (k (j + (n - 2)) +ℤ k (j + (n - 1)) +ℤ k j +ℤ k (j + 1)) -ℤ pos 4 *ℤ sum n k)

-- over `virtual_scale`, from a ring over `extrapolated_scale`; n from 3 to 8 divides `valence_scale`
abbrev pub virtual_numerator : Weights → (n : ℕ) (l k : ℕ → ℤ) (j : ℕ) → ℤ
virtual_numerator w n l k j = pos (valence_scale / n) *ℤ virtual_z w n l k j

-- 1 at place e, else 0
abbrev pub one_at : ℕ → ℕ → ℤ
one_at e d = cond (eqb d e) (pos 1) (pos 0)

-- the weights over near · n of the neighbour and of the opposite corner d places on from the edge. A place that the formula names twice counts twice: for
-- n = 3 the corner at 1 is both k_(j-2) and k_(j+1).
abbrev pub weight_l : Weights → ℕ → ℕ → ℤ
weight_l w n d = pos w.near *ℤ (pos 4 -ℤ pos n *ℤ (one_at (n - 1) d +ℤ one_at 0 d +ℤ one_at 1 d))

abbrev pub weight_k : Weights → ℕ → ℕ → ℤ
weight_k w n d = pos w.far *ℤ (pos n *ℤ (one_at (n - 2) d +ℤ one_at (n - 1) d +ℤ one_at 0 d +ℤ one_at 1 d) -ℤ pos 4)

-- Paper 01: "The weights for n = 3 to 8 are a constant table over 9n". The table is that of these weights, over n: near times its numbers for the neighbours, and far times
-- those for the opposite corners, are the weights over near · n at any near and far (`weight_of`)
abbrev pub unit_weights : Weights
unit_weights = record { near = 1; far = 1 }

-- a row for n: eight places for neighbours, then eight for opposite corners, 0 where there is none
abbrev pub entry : Weights → ℕ → ℕ → ℤ
entry w n o = cond (ltb o 8) (cond (ltb o n) (weight_l w n o) (pos 0)) (cond (ltb (o - 8) n) (weight_k w n (o - 8)) (pos 0))

abbrev pub row : Weights → ℕ → List ℤ
row w n = tabulate 16 (entry w n)

-- the number x at place o of a row of `unit_weights`, times near or far
abbrev pub weight_of : Weights → ℕ → ℤ → ℤ
weight_of w o x = cond (ltb o 8) (pos w.near *ℤ x) (pos w.far *ℤ x)
