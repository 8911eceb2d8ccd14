-- `obj::store_items` meets its contract. Assumes nothing.
use Rattle.objform.specs.Form.{read_item}
use Rattle.reading.proofs.Lines.{line_reads, line_within}
use Rattle.obj.proofs.Passing.{item_end, room_next, storing_more, storing_ends, room_kept}
use Rattle.obj.proofs.store_items.Goals as goal

pub returns-in_default : goal.returns-in_default
returns-in_default c = storing_ends c.loop-at.invariant (line_reads read_item c.args.text.now c.loop-at.at c.in_default.ensures.gives)

pub store_item-met-requires : goal.store_item-met-requires
store_item-met-requires c =
    let t = c.args.text.now in
    let g = c.in-Some.ensures in
    let s = c.loop-at.invariant in
    room_next s.met _ _ (line_reads read_item t c.loop-at.at g.gives) g.takes (line_within t c.loop-at.at g.gives s.met.passed.within) (room_kept s c.requires)

pub loop-at-preserved : goal.loop-at-preserved
loop-at-preserved c =
    let t = c.args.text.now in
    let g = c.in-Some.ensures in
    let s = c.loop-at.invariant in
    storing_more s _ _ (line_reads read_item t c.loop-at.at g.gives) g.takes (line_within t c.loop-at.at g.gives s.met.passed.within) c.store_item-met.ensures

pub returns : goal.returns
returns c = storing_ends c.loop-at.invariant (item_end _ _ c.loop-at-test.false)
