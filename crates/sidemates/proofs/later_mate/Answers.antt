-- `later_mate` meets its contract. Assumes nothing.
use mathlib.Core.Path.{◌≡◌, ◌∙◌}
use Prim.Native.Nat.{ℕ, ◌+◌, ◌*◌, ◌%◌, ◌<◌}
use native.Mathlib.Omega.{arith}
use borrow.Author.Tests.{lt-ltb, le-ltb}
use Rattle.topology.specs.Shape.{quads}
use Rattle.sidemates.specs.FirstMate.{first_mate}
use Rattle.sidemates.proofs.later_mate.Goals as goal
use Rattle.sidemates.proofs.later_mate.Goals.{in_default-via-in-0+else-m-n, in_default-via-in_default+else-i-lt3}

later_first : (n i m : ℕ) → m < n → m % 4 + i ≡ 3 → 0 < i → 4 * m + 7 ≡ first_mate n m
unfolding first_mate quads
later_first n i m h e b = rw (lt-ltb m n h) (omega arith)

pub returns-in-0-clause-mate : goal.returns-in-0-clause-mate
unfolding first_mate quads
returns-in-0-clause-mate c = let m = c.requires.2 c.if-m-n.true in rw (lt-ltb _ _ c.if-m-n.true) (omega arith)

pub returns-in-1-clause-mate : goal.returns-in-1-clause-mate
returns-in-1-clause-mate c = let l : c.args.m < c.args.n = c.requires.3 (omega arith) (omega arith) in c.inner_mate.ensures ∙ later_first _ c.args.i _ l (c.requires.2 l) (omega arith)

pub returns-in_default-clause-mate : goal.returns-in_default-clause-mate
returns-in_default-clause-mate c = later_first _ c.args.i _ c.if-m-n-2.true (c.requires.2 c.if-m-n-2.true)
    (elim c.in_default.branch [ in_default-via-in-0+else-m-n w ↦ let f = w.if-m-n.false in let t = c.if-m-n-2.true in absurd (omega arith) | in_default-via-in_default+else-i-lt3 w ↦ omega arith ])

pub returns-in_default-2-clause-mate : goal.returns-in_default-2-clause-mate
unfolding first_mate
returns-in_default-2-clause-mate c = rw (le-ltb _ _ c.if-m-n-2.false)
