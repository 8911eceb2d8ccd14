-- `share_passed` meets its contract. Assumes nothing.
use mathlib.Core.Path.{sym, ◌∙◌}
use Rattle.sharing.specs.Sharing.{side}
use Rattle.sharing.proofs.Laws.{bad_first, bad_second}
use Rattle.sharing.proofs.share_passed.Goals as goal

pub returns-then-bad_start : goal.returns-then-bad_start
returns-then-bad_start c = bad_first (side c.args.a) (side c.args.b) _ _ c.requires (sym c.bad_start.ensures ∙ c.if-bad_start.true)

pub returns-then-bad_start-2 : goal.returns-then-bad_start-2
returns-then-bad_start-2 c =
    bad_second (side c.args.a) (side c.args.b) _ _ c.requires (sym c.bad_start.ensures ∙ c.if-bad_start.false) (sym c.bad_start-2.ensures ∙ c.if-bad_start-2.true)

pub share_marked-requires : goal.share_marked-requires
share_marked-requires c = record { passed = c.requires; first = sym c.bad_start.ensures ∙ c.if-bad_start.false; second = sym c.bad_start-2.ensures ∙ c.if-bad_start-2.false }
