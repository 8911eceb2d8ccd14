-- Growth by computation.
use mathlib.Core.Path.{◌≡◌, refl}
use mathlib.Core.List.{List, [], ◌∷◌, map}
use Prim.Native.Nat.{ℕ}
use Rattle.growth.specs.Growth.{Counts, counts, grown, grown_by}

record Case : Type 0 where
  net : Counts
  steps : ℕ
  expected : ℕ

abbrev case : Counts → ℕ → ℕ → Case
case c k n = record { net = c; steps = k; expected = n }

-- one square, a triangle that is split, a cube
cases : List Case
cases =
    case (counts 4 4 1 4) 0 4 ∷ case (counts 4 4 1 4) 1 9 ∷ case (counts 4 4 1 4) 2 25 ∷ case (counts 4 4 1 4) 3 81
    ∷ case (counts 3 3 1 3) 1 7
    ∷ case (counts 8 12 6 24) 1 26 ∷ case (counts 8 12 6 24) 2 98
    ∷ []

cases_hold : map (λ (c : Case). (grown_by c.steps c.net).vertices) cases ≡ map (λ (c : Case). c.expected) cases
unfolding cases grown grown_by
cases_hold = refl
