-- `direction_on` meets its contract: no step leaves its range. Assumes nothing.
use borrow.Author.Rules.{rules}
use native.Mathlib.Omega.{arith}
use Prim.Native.Nat.{ℕ, ◌≤◌, ◌<◌}
use lib.IntN.{ℤ, nat_abs}
use mir.Syntax.{w64}
use mir.Val.{SFits}
use mir.Facts.{to_z-of_z}
use Rattle.curve.specs.Weights.{tension}
use Rattle.rings.proofs.Tension.{edge_range_le}
use Rattle.rings.specs.Scales.{edge_range}
use Rattle.facerules.proofs.Reading.{across_lt, exact_small}
use Rattle.facerules.proofs.Directions.{far_size, direction_read}
use Rattle.facerules.proofs.RoundEdges.direction_on.Goals as goal
use Rattle.facerules.proofs.RoundEdges.direction_on.Goals.{After-exact_on-y}

-- the opposite side is there, and both edges are small
record Near (r n g : ℕ) (x y : ℤ) : Type 0 where
  opposite : g < n
  first : nat_abs x ≤ edge_range (tension r)
  second : nat_abs y ≤ edge_range (tension r)

near : (c : After-exact_on-y) → Near c.args.self.tension c.args.self.half_edges c.across_side-g.result c.exact_on-x.result c.exact_on-y.result
near c =
    let lt : c.across_side-g.result < c.args.self.half_edges = omega (arith, c.across_side-g.ensures, across_lt _ _ c.args.self.table.entries.fours c.requires.0) in
    record {
      opposite = lt;
      first = exact_small _ _ _ _ _ _ c.args.self.table c.requires.1 c.requires.0 c.exact_on-x.ensures;
      second = exact_small _ _ _ _ _ _ c.args.self.table c.requires.1 lt c.exact_on-y.ensures;
    }

pub exact_on-y-requires : goal.exact_on-y-requires
exact_on-y-requires c = (omega (arith, c.across_side-g.ensures, across_lt _ _ c.args.self.table.entries.fours c.requires.0), c.requires.1)

pub far_on-u-requires : goal.far_on-u-requires
far_on-u-requires c =
    let k = near (goal.at.far_on-u-requires c).After-exact_on-y in
    let f : SFits w64 c.exact_on-x.result = search rules in
    let g : SFits w64 c.exact_on-y.result = search rules in
    simp to_z-of_z (c.requires.0, c.requires.1, k.first, k.second)

pub far_on-v-requires : goal.far_on-v-requires
far_on-v-requires c =
    let k = near (goal.at.far_on-v-requires c).After-exact_on-y in
    let f : SFits w64 c.exact_on-x.result = search rules in
    let g : SFits w64 c.exact_on-y.result = search rules in
    simp to_z-of_z (k.opposite, c.requires.1, k.second, k.first)

pub four_point-requires : goal.four_point-requires
four_point-requires c =
    let k = near (goal.at.four_point-requires c).After-exact_on-y in
    let table = c.args.self.table in
    let f : SFits w64 c.exact_on-x.result = search rules in
    let g : SFits w64 c.exact_on-y.result = search rules in
    let i : SFits w64 c.far_on-u.result = search rules in
    let j : SFits w64 c.far_on-v.result = search rules in
    let a = k.first in
    let b = k.second in
    let d = far_size c.args.self.tension _ _ _ table c.requires.1 _ _ _ c.far_on-u.result a b (simp to_z-of_z at c.far_on-u.ensures) in
    let e = far_size c.args.self.tension _ _ _ table c.requires.1 _ _ _ c.far_on-v.result b a (simp to_z-of_z at c.far_on-v.ensures) in
    let r = edge_range_le c.args.self.tension table.low in
    simp to_z-of_z (table.low, omega arith, omega arith, omega arith, omega arith)

pub returns : goal.returns
returns c =
    let f : SFits w64 c.exact_on-x.result = search rules in
    let g : SFits w64 c.exact_on-y.result = search rules in
    let i : SFits w64 c.far_on-u.result = search rules in
    let j : SFits w64 c.far_on-v.result = search rules in
    let k : SFits w64 c.four_point.result = search rules in
    simp to_z-of_z (direction_read _ _ _ _ _ _ c.four_point.result c.far_on-u.result c.exact_on-x.result c.exact_on-y.result c.far_on-v.result
    c.across_side-g.ensures (simp to_z-of_z at c.four_point.ensures) c.exact_on-x.ensures c.exact_on-y.ensures (simp to_z-of_z at c.far_on-u.ensures) (simp to_z-of_z at c.far_on-v.ensures))
