-- `printing::write_net` meets its contract: six texts in a row. Assumes nothing.
use native.Mathlib.Omega.{arith}
use Rattle.textform.specs.Bytes.{bytes}
use Rattle.printingform.proofs.Writing.{in_row, at_front, answer_is}
use Rattle.printing.proofs.write_net.Goals as goal

pub returns : goal.returns
unfolding bytes
returns c =
    let a = c.args in
    let head = in_row (in_row c.put_bytes-a.ensures c.put_pair-b.ensures) c.put_columns-c.ensures in
    let body = in_row (in_row (in_row head c.put_vertices-d.ensures) c.put_bytes-e.ensures) c.put_faces.ensures in
    rw (answer_is a.rule a.v a.f a.vertices.now a.faces.now a.marks.now a.letters.now) (at_front _ _ _ _ _ _ body (omega arith) c.requires.4)
