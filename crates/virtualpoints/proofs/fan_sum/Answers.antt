-- `fan_sum` meets its contract. Assumes nothing.
use Prim.Native.Nat.{ℕ, ◌+◌, ◌-◌, ◌≤◌}
use native.Mathlib.Omega.{arith}
use borrow.Author.Rules.{rules}
use Rattle.integers.specs.Within.{WithinFirst}
use Rattle.rings.proofs.Table.{row_small}
use Rattle.ringsums.specs.Sums.{weight_range}
use Rattle.ringsums.proofs.Sums.{sums_small}
use Rattle.virtualpoints.proofs.fan_sum.Goals as goal
use Rattle.virtualpoints.proofs.fan_sum.Goals.{After-weights-w}

weights_small : (c : After-weights-w) → WithinFirst 16 weight_range c.weights-w.result
weights_small c = let p = c.requires.within in let e = c.weights-w.ensures in rw e (row_small (c.args.fan.now.count + 2) c.args.t (omega arith) (omega arith) p.5)

pub weighted_sum-s-requires-clause-within : goal.weighted_sum-s-requires-clause-within
weighted_sum-s-requires-clause-within c = (c.requires.within.0, weights_small (goal.at.weighted_sum-s-requires-clause-within c).After-weights-w)

pub on_axes-requires : goal.on_axes-requires
on_axes-requires c =
    let p = c.requires.within in
    let n : ℕ = c.args.fan.now.count + 2 in
    let w = weights_small (goal.at.on_axes-requires c).After-weights-w in
    let three : 3 ≤ n = omega arith in
    let eight : n ≤ 8 = omega arith in
    let two : c.args.fan.now.count - c.args.j + 2 ≤ n = omega arith in
    let s =
    sums_small c.weights-w.result n (n - c.args.j) c.args.fan.now.count c.args.points.now c.args.fan.now.neighbours c.args.fan.now.opposites c.weighted_sum-s.result c.weighted_sum-s.ensures w p.0 (omega arith) (omega arith) (omega arith) in
    search rules
