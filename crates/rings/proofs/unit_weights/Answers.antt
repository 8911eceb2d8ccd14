-- `rings::unit_weights` meets its contract: the table computes to that of the formula, in one test. Assumes nothing.
use mathlib.Core.Path.{◌≡◌, refl, ap, ◌∙◌}
use mathlib.Core.List.{List, [], ◌∷◌}
use Prim.Native.Nat.{ℕ, ◌+◌, ◌-◌}
use native.Mathlib.Omega.{arith}
use lib.IntN.{ℤ, pos, negsuc}
use lib.ListN.{get_or}
use Rattle.lists.specs.Tabulate.{tabulate}
use Rattle.lists.proofs.Tabulate.{get_or-tabulate}
use Rattle.rings.specs.RingWeights.{unit_weights, row}
use Rattle.rings.proofs.unit_weights.Goals as goal

-- the table of the code
abbrev table : List (List ℤ)
table =
    (pos 1 ∷ pos 1 ∷ pos 1 ∷ pos 0 ∷ pos 0 ∷ pos 0 ∷ pos 0 ∷ pos 0 ∷ negsuc 0 ∷ pos 2 ∷ negsuc 0 ∷ pos 0 ∷ pos 0 ∷ pos 0 ∷ pos 0 ∷ pos 0 ∷ []) ∷
    (pos 0 ∷ pos 0 ∷ pos 4 ∷ pos 0 ∷ pos 0 ∷ pos 0 ∷ pos 0 ∷ pos 0 ∷ pos 0 ∷ pos 0 ∷ pos 0 ∷ pos 0 ∷ pos 0 ∷ pos 0 ∷ pos 0 ∷ pos 0 ∷ []) ∷
    (negsuc 0 ∷ negsuc 0 ∷ pos 4 ∷ pos 4 ∷ negsuc 0 ∷ pos 0 ∷ pos 0 ∷ pos 0 ∷ pos 1 ∷ pos 1 ∷ negsuc 3 ∷ pos 1 ∷ pos 1 ∷ pos 0 ∷ pos 0 ∷ pos 0 ∷ []) ∷
    (negsuc 1 ∷ negsuc 1 ∷ pos 4 ∷ pos 4 ∷ pos 4 ∷ negsuc 1 ∷ pos 0 ∷ pos 0 ∷ pos 2 ∷ pos 2 ∷ negsuc 3 ∷ negsuc 3 ∷ pos 2 ∷ pos 2 ∷ pos 0 ∷ pos 0 ∷ []) ∷
    (negsuc 2 ∷ negsuc 2 ∷ pos 4 ∷ pos 4 ∷ pos 4 ∷ pos 4 ∷ negsuc 2 ∷ pos 0 ∷ pos 3 ∷ pos 3 ∷ negsuc 3 ∷ negsuc 3 ∷ negsuc 3 ∷ pos 3 ∷ pos 3 ∷ pos 0 ∷ []) ∷
    (negsuc 3 ∷ negsuc 3 ∷ pos 4 ∷ pos 4 ∷ pos 4 ∷ pos 4 ∷ pos 4 ∷ negsuc 3 ∷ pos 4 ∷ pos 4 ∷ negsuc 3 ∷ negsuc 3 ∷ negsuc 3 ∷ negsuc 3 ∷ pos 4 ∷ pos 4 ∷ []) ∷ []

-- the one computed test: all of it is as the formula gives it
computed : table ≡ tabulate 6 (λ (i : ℕ). row unit_weights (i + 3))
unfolding tabulate
computed = refl

pub returns : goal.returns
returns c =
    let n = c.args.n in
    let e : n - 3 + 3 ≡ n = omega arith in
    ap (λ (t : List (List ℤ)). get_or t (n - 3) []) computed ∙ get_or-tabulate 6 (λ (i : ℕ). row unit_weights (i + 3)) (n - 3) [] (omega arith) ∙ ap (row unit_weights) e
