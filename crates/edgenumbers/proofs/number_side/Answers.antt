-- `number_side` meets its contract. Assumes nothing.
use mathlib.Core.Path.{ap, ◌∙◌}
use Prim.Native.Nat.{ℕ, ◌+◌}
use native.Mathlib.Omega.{arith}
use lib.ListN.{set, take}
use Rattle.search.proofs.Count.{count-le}
use Rattle.edgenumbers.specs.Edges.{met_by}
use Rattle.edgenumbers.proofs.Edges.{side_new, met_new, side_old, met_old}
use Rattle.edgenumbers.proofs.number_side.Goals as goal

pub overflow_cast-work : goal.overflow_cast-work
overflow_cast-work c = omega (arith, count-le (met_by (take c.args.n c.args.work.now)) c.args.h)

pub overflow_add-result : goal.overflow_add-result
overflow_add-result c = omega (arith, count-le (met_by (take c.args.n c.args.work.now)) c.args.h)

pub returns-then-h-mate-clause-value : goal.returns-then-h-mate-clause-value
returns-then-h-mate-clause-value c =
    let n = c.args.n in
    let h = c.args.h in
    let w = c.args.work.now in
    let p = c.requires.h_lt_n in
    let b = c.if-h-mate.true in ap (λ (k : ℕ). k + 1) p.1 ∙ met_new n h w p.0 c.requires.paired_in b

pub returns-then-h-mate-clause-work_after : goal.returns-then-h-mate-clause-work_after
returns-then-h-mate-clause-work_after c =
    let n = c.args.n in
    let h = c.args.h in
    let w = c.args.work.now in
    let p = c.requires.h_lt_n in
    let b = c.if-h-mate.true in ap (set w (n + h)) (p.1 ∙ side_new n h w p.0 c.requires.paired_in b)

pub returns-clause-value : goal.returns-clause-value
returns-clause-value c =
    let n = c.args.n in
    let h = c.args.h in
    let w = c.args.work.now in
    let p = c.requires.h_lt_n in
    let b = c.if-h-mate.false in p.1 ∙ met_old n h w p.0 c.requires.paired_in b

pub returns-clause-work_after : goal.returns-clause-work_after
returns-clause-work_after c =
    let n = c.args.n in
    let h = c.args.h in
    let w = c.args.work.now in
    let p = c.requires.h_lt_n in
    let b = c.if-h-mate.false in ap (set w (n + h)) (side_old n h w p.0 c.requires.paired_in c.requires.numbered_below b)
