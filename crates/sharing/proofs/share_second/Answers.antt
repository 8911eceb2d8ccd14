-- `share_second` meets its contract: the second net admitted or refused, the test, and one clearing. Assumes nothing.
use mathlib.Core.Path.{◌≡◌, ap, ◌∙◌}
use Prim.Native.Nat.{ℕ, max}
use native.Mathlib.Omega.{arith}
use borrow.Author.Rules.{rules}
use Rattle.std.specs.Prelude.{Err}
use Rattle.sharing.specs.Sharing.{side}
use Rattle.sharing.specs.Walks.{faces_of, BothPassed}
use Rattle.sharing.proofs.Second.{both_passed, second_cleared, second_refused}
use Rattle.sharing.proofs.share_second.Goals as goal
use Rattle.sharing.proofs.share_second.Goals.{After-max-f}

chosen : (c : After-max-f) → c.max-f.result ≡ max (faces_of (side c.args.a).net) c.in_ok-g.g
chosen c = c.max-f.ensures ∙ ap (λ (n : ℕ). max n c.in_ok-g.g) c.quadrilaterals.ensures

passed : (c : After-max-f) → BothPassed (side c.args.a) (side c.args.b) c.max-f.result c.admit_alone.new.work
passed c =
    both_passed (side c.args.a) (side c.args.b) c.args.work.now c.requires c.admit_alone.new.work c.admit_alone.auto.work _ c.in_ok-g.ensures.0 c.in_ok-g.ensures.1 _
    (chosen c)

pub share_passed-answer-requires : goal.share_passed-answer-requires
share_passed-answer-requires c = passed (goal.at.share_passed-answer-requires c).After-max-f

pub overflow_mul-f : goal.overflow_mul-f
overflow_mul-f c = let k = (passed (goal.at.overflow_mul-f c).After-max-f).few in omega arith

pub clear-requires : goal.clear-requires
clear-requires c = let r = (passed (goal.at.clear-requires c).After-max-f).room in let k = c.share_passed-answer.auto.work in omega arith

pub returns-in_err-g : goal.returns-in_err-g
returns-in_err-g c =
    let e : c.from_residual.result ≡ Err c.in_err-g.field-0.0 = search rules in
    rw e (second_refused (side c.args.a) (side c.args.b) c.args.work.now c.requires _ c.admit_alone.new.work c.in_err-g.ensures)

pub returns : goal.returns
returns c =
    second_cleared (side c.args.a) (side c.args.b) c.args.work.now c.requires c.admit_alone.new.work c.admit_alone.auto.work _ c.in_ok-g.ensures.0 c.in_ok-g.ensures.1 _
    (chosen (goal.at.returns c).After-max-f) _ _ _ c.share_passed-answer.ensures c.clear.ensures
