-- `count_side` meets its contract. Assumes nothing.
use mathlib.Core.Path.{◌≡◌, ap, ◌∙◌}
use Prim.Native.Nat.{ℕ, ◌+◌}
use native.Mathlib.Omega.{arith}
use lib.ListN.{get_or}
use Rattle.topology.specs.HalfEdge.{from}
use Rattle.ringsizes.specs.Classes.{size_at}
use Rattle.ringsizes.proofs.Classes.{share_le, counted_few, size_here, counted_next}
use Rattle.classes.proofs.count_side.Goals as goal
use Rattle.classes.proofs.count_side.Goals.{After-size_at}

-- the size is what stands in the table
read : (c : After-size_at) → c.size_at.result ≡ get_or c.args.work.now (c.args.at + from c.args.faces.now c.args.h) 0
read c =
    c.size_at.ensures ∙ ap (λ (i : ℕ). size_at c.args.work.now (c.args.at + i)) c.start_of.ensures
    ∙ size_here c.args.v c.args.at c.args.faces.now c.args.work.now c.args.h c.requires.h_in_bounds.0 c.requires.countable c.requires.h_in_bounds.1

pub overflow_add-size : goal.overflow_add-size
overflow_add-size c =
    let d = c.share.ensures in
    omega (
      arith,
      read (goal.at.overflow_add-size c).After-size_at,
      counted_few c.args.v c.args.at c.args.faces.now c.args.work.now c.args.h c.requires.h_in_bounds.0 c.requires.countable c.requires.h_in_bounds.1,
      share_le c.args.faces.now c.args.h,
    )

pub returns-clause-counted_below : goal.returns-clause-counted_below
returns-clause-counted_below c =
    let e = c.start_of.ensures in
    let q = read (goal.at.returns-clause-counted_below c).After-size_at in
    let d = c.share.ensures in
    let b = c.requires.countable.net.oriented.below c.args.h c.requires.h_in_bounds.0 in
    rw (e, q, d) (counted_next c.args.v c.args.at c.args.faces.now c.args.work.now c.args.h c.requires.h_in_bounds.0 c.requires.countable c.requires.h_in_bounds.1)
