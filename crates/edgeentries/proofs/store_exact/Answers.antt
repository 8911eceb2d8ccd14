-- `store_exact` meets its contract. Assumes nothing.
use borrow.Author.Rules.{rules}
use mir.Syntax.{w64}
use mir.Val.{SFits}
use mir.Facts.{to_z-of_z}
use Rattle.edgeentries.proofs.Packed.{put_three_is}
use Rattle.edgeentries.proofs.store_exact.Goals as goal

pub returns : goal.returns
returns c =
    let f : SFits w64 c.args.e.x = search rules in
    let g : SFits w64 c.args.e.y = search rules in
    let h : SFits w64 c.args.e.z = search rules in
    put_three_is _ _ _ _ _ c.args.e.x c.args.e.y c.args.e.z (simp to_z-of_z at c.store.ensures) (simp to_z-of_z at c.store-2.ensures) (simp to_z-of_z at c.store-3.ensures)
