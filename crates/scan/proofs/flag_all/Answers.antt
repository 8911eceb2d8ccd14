-- `scan::flag_all` meets its contract: the corners met so far are flagged. Assumes nothing.
use mathlib.Core.Path.{◌≡◌, refl, ◌∙◌}
use native.Mathlib.Omega.{arith}
use lib.ListN.{length}
use lib.Seq.{drop-set-lt}
use Rattle.topology.specs.HalfEdge.{from}
use Rattle.tables.proofs.Laws.{drop-cleared}
use Rattle.scan.proofs.Laws.{flagged_none, flagged_set, flagged_past}
use Rattle.scan.proofs.flag_all.Goals as goal
use Rattle.scan.proofs.flag_all.Goals.{then-a-m, else-a-m}

pub loop-corner-init : goal.loop-corner-init
loop-corner-init c = record { flagged = rw c.clear.ensures (flagged_none _ _ _); rest = refl }

pub loop-corner-preserved : goal.loop-corner-preserved
unfolding from
loop-corner-preserved c =
    let k = c.loop-corner-test.true in
    let inv = c.loop-corner.invariant in
    elim c.if-a-m.branch [
      | then-a-m w ↦ record {
        flagged = rw w.work-is (flagged_set c.args.m c.args.faces.now c.loop-corner.work c.loop-corner.corner-index k inv.flagged _ refl (omega arith));
        rest = rw w.work-is (drop-set-lt _ _ _ _ w.if-a-m.true ∙ inv.rest);
      }
      | else-a-m w ↦ record {
        flagged = rw w.work-is (flagged_past c.args.m c.args.faces.now c.loop-corner.work c.loop-corner.corner-index k inv.flagged w.if-a-m.false);
        rest = rw w.work-is inv.rest;
      }
    ]

pub returns : goal.returns
returns c =
    let e : c.loop-corner.corner-index ≡ length c.args.faces.now = omega arith in
    (rw e at c.loop-corner.invariant.flagged, c.loop-corner.invariant.rest ∙ rw c.clear.ensures (drop-cleared c.args.m c.args.work.now))
