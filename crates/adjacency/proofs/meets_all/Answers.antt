-- `meets_all` meets its contract: k turns from h lead to g, and turning has not stopped before. Assumes nothing.
use Prim.Native.Nat.{ℕ}
use mathlib.Core.Path.{sym, ap}
use native.Mathlib.Omega.{arith}
use lib.Dec.{eqb}
use Rattle.adjacency.proofs.Turning.{turned_start, turned_next, met_end, met_more}
use Rattle.adjacency.proofs.meets_all.Goals as goal

pub loop-k-init : goal.loop-k-init
loop-k-init c = turned_start _ _ _ c.requires.0

pub returns-then-g-n : goal.returns-then-g-n
returns-then-g-n c =
    ap (λ (m : ℕ). eqb m c.args.d) (met_end _ _ _ _ _ _ c.loop-k.invariant c.turn-g.ensures (omega arith) c.then-g-n.either)

pub loop-k-preserved : goal.loop-k-preserved
loop-k-preserved c = turned_next _ _ _ _ _ _ c.loop-k.invariant c.turn-g.ensures c.if-g-n.false c.if-g-h.false

pub returns : goal.returns
returns c = sym (met_more _ _ _ _ _ _ c.loop-k.invariant c.loop-k-test.false (omega arith))
