-- `share_seam` meets its contract: the first net, then the second. Assumes nothing.
use mathlib.Core.Path.{◌≡◌}
use borrow.Author.Rules.{rules}
use Rattle.std.specs.Prelude.{Err}
use Rattle.sharing.specs.Sharing.{side}
use Rattle.sharing.proofs.Second.{first_refused, first-passed, after_first}
use Rattle.sharing.proofs.share_seam.Goals as goal

pub share_second-requires : goal.share_second-requires
share_second-requires c = first-passed (side c.args.a) (side c.args.b) c.args.work.now c.check_alone.new.work c.check_alone.auto.work c.in_ok-check_alone.ensures

pub returns-in_err-check_alone : goal.returns-in_err-check_alone
returns-in_err-check_alone c =
    let e : c.from_residual.result ≡ Err c.in_err-check_alone.field-0.0 = search rules in
    rw e (first_refused (side c.args.a) (side c.args.b) c.args.work.now c.check_alone.new.work _ c.in_err-check_alone.ensures)

pub returns : goal.returns
returns c =
    after_first (side c.args.a) (side c.args.b) c.args.work.now c.check_alone.new.work c.check_alone.auto.work c.in_ok-check_alone.ensures _ c.share_second.ensures
