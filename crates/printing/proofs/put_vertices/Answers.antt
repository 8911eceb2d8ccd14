-- `printing::put_vertices` meets its contract. Assumes nothing.
use Prim.Native.Nat.{◌+◌, ◌*◌}
use borrow.Author.Rules.{rules}
use lib.IntN.{pos}
use mir.Syntax.{w32}
use mir.Val.{SFits}
use mir.Facts.{to_z-of_z}
use lib.ListN.{get_or}
use Rattle.textform.specs.Text.{lettered_text}
use Rattle.printingform.specs.Tables.{lettered_at, lettered_of, end_room}
use Rattle.printingform.proofs.Writing.{in_row, lines_none, lines_more}
use Rattle.printing.proofs.put_vertices.Goals as goal

pub loop-i-init : goal.loop-i-init
unfolding lettered_of
loop-i-init c =
    let a = c.args in
    (lines_none (lettered_text a.rule) (lettered_at a.vertices.now a.marks.now a.letters.now) (39 + end_room a.rule) _ _)

pub loop-i-preserved : goal.loop-i-preserved
unfolding lettered_of lettered_text
loop-i-preserved c =
    let a = c.args in
    let fx : SFits w32 (get_or a.vertices.now (3 * c.loop-i.i) (pos 0)) = search rules in
    let fy : SFits w32 (get_or a.vertices.now (3 * c.loop-i.i + 1) (pos 0)) = search rules in
    let fz : SFits w32 (get_or a.vertices.now (3 * c.loop-i.i + 2) (pos 0)) = search rules in
    let w = in_row (simp to_z-of_z at c.put_numbers-end.ensures) c.put_end-to.ensures in
    let more = lines_more (lettered_text a.rule) (lettered_at a.vertices.now a.marks.now a.letters.now) (39 + end_room a.rule) c.loop-i.i c.loop-i.invariant w in
    more
