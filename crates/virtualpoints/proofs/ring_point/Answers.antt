-- `ring_point` meets its contract. Assumes nothing.
use native.Mathlib.Omega.{arith}
use borrow.Author.Rules.{rules}
use mir.Syntax.{w64}
use mir.Facts.{to_z-of_z}
use Rattle.integers.specs.Within.{WithinFirst}
use Rattle.integers.proofs.Range.{fits_abs}
use Rattle.rings.proofs.Table.{row_small}
use Rattle.ringsums.specs.Sums.{weight_range}
use Rattle.ringsums.proofs.Sums.{sums_small}
use Rattle.virtualpoints.proofs.ring_point.Goals as goal
use Rattle.virtualpoints.proofs.ring_point.Goals.{After-weights-w}

weights_small : (c : After-weights-w) → WithinFirst 16 weight_range c.weights-w.result
weights_small c = let p = c.requires.within in let e = c.weights-w.ensures in rw e (row_small c.args.ring.now.count c.args.t p.1 p.2 p.3)

pub weighted_sum-s-requires-clause-within : goal.weighted_sum-s-requires-clause-within
weighted_sum-s-requires-clause-within c = (c.requires.within.0, weights_small (goal.at.weighted_sum-s-requires-clause-within c).After-weights-w)

pub map-requires : goal.map-requires
map-requires c =
    let m = c.args.ring.now.count in
    let s = c.weighted_sum-s.result in
    let p = c.requires.within in
    let small =
    sums_small c.weights-w.result m 0 m c.args.points.now c.args.ring.now.neighbours c.args.ring.now.opposites s c.weighted_sum-s.ensures
    (weights_small (goal.at.map-requires c).After-weights-w) p.0 (omega arith) p.2 (omega arith) in
    let b₀ = small.on₀ in
    let b₁ = small.on₁ in
    let b₂ = small.on₂ in
    let f₀ = fits_abs w64 s.x (omega arith) in
    let f₁ = fits_abs w64 s.y (omega arith) in
    let f₂ = fits_abs w64 s.z (omega arith) in
    simp to_z-of_z (search rules)
