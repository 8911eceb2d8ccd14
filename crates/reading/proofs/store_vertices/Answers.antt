-- `reading::store_vertices` meets its contract. Assumes nothing.
use Rattle.textform.specs.Form.{read_vertex}
use Rattle.reading.proofs.Lines.{line_reads, line_within}
use Rattle.reading.proofs.Storing.{filling_more, filling_over, filling_bad, vertex_stored, mark_stored, no_coordinates, no_marks}
use Rattle.reading.proofs.store_vertices.Goals as goal

pub returns-in_default : goal.returns-in_default
returns-in_default c =
    let e = line_reads (read_vertex c.args.marked) c.args.text.now c.loop-i.at c.in_default.ensures in
    record { table = filling_bad c.loop-i.invariant.1 no_coordinates e; marks = filling_bad c.loop-i.invariant.2 no_marks e }

pub loop-i-preserved : goal.loop-i-preserved
loop-i-preserved c =
    let l = c.loop-i.invariant in
    let t = c.loop-i-test.true in
    let g = c.in-Some.ensures in
    let e = line_reads (read_vertex c.args.marked) c.args.text.now c.loop-i.at g in
    let s = c.store_vertex.ensures in (
      line_within c.args.text.now c.loop-i.at g l.0,
      filling_more l.1 _ _ _ _ t e (vertex_stored _ c.loop-i.i _ s.coordinates) c.store_vertex.auto.vertices,
      filling_more l.2 _ _ _ _ t e (mark_stored _ c.loop-i.i _ s.mark) c.store_vertex.auto.marks,
    )

pub returns : goal.returns
returns c =
    let l = c.loop-i.invariant in
    record { table = filling_over l.1 no_coordinates c.loop-i-test.false; marks = filling_over l.2 no_marks c.loop-i-test.false }
