-- `obj::count_items` meets its contract. Assumes nothing.
use native.Mathlib.Omega.{arith}
use Rattle.objform.specs.Form.{read_item}
use Rattle.reading.proofs.Lines.{line_reads, line_within}
use Rattle.obj.proofs.Passing.{vertices_few, faces_few, item_end, met_bad, met_all, counting_more}
use Rattle.obj.proofs.count_items.Goals as goal

pub returns-in_default : goal.returns-in_default
returns-in_default c = met_bad c.loop-at.invariant.met (line_reads read_item c.args.text.now c.loop-at.at c.in_default.ensures.gives) c.loop-at-test.true c.loop-at.invariant.is

pub count_item-met-requires : goal.count_item-met-requires
count_item-met-requires c =
    let t = c.args.text.now in
    let a = vertices_few t in
    let b = faces_few t in
    let s = c.requires in
    let v = c.loop-at.invariant.met.vertices in
    let f = c.loop-at.invariant.met.faces in
    (omega arith, omega arith)

pub loop-at-preserved : goal.loop-at-preserved
loop-at-preserved c =
    let t = c.args.text.now in
    let g = c.in-Some.ensures in
    counting_more c.loop-at.invariant _ _ (line_reads read_item t c.loop-at.at g.gives) g.takes (line_within t c.loop-at.at g.gives c.loop-at.invariant.met.passed.within) c.count_item-met.ensures

pub returns : goal.returns
returns c = met_all c.loop-at.invariant.met (item_end _ _ c.loop-at-test.false) c.loop-at-test.false
