-- `rings::weights` meets its contract. Assumes nothing.
use mathlib.Core.Path.{◌≡◌}
use mathlib.Core.List.{◌++◌}
use lib.ListN.{drop}
use Rattle.lists.specs.Tabulate.{tabulate}
use Rattle.curve.specs.Weights.{tension}
use Rattle.rings.specs.RingWeights.{entry}
use Rattle.rings.proofs.weights.Given as goal

-- the first i weights are made
abbrev pub invariant-loop-i : goal.invariant-loop-i
invariant-loop-i l = l.w ≡ tabulate l.i (entry (tension l.t) l.n) ++ drop l.i l.initial.w
