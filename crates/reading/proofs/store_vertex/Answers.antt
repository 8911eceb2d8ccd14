-- `reading::store_vertex` meets its contract. Assumes nothing.
use mathlib.Core.Path.{refl}
use native.Mathlib.Omega.{arith}
use Prim.Native.Nat.{◌*◌}
use borrow.Author.Rules.{rules}
use mir.Syntax.{w32}
use mir.Val.{SFits}
use mir.Facts.{to_z-of_z}
use Rattle.readingform.specs.Loaded.{coordinates_of, marks_of}
use Rattle.decimal.proofs.Copies.{copied}
use Rattle.reading.proofs.store_vertex.Goals as goal

pub returns-clause-coordinates : goal.returns-clause-coordinates
unfolding coordinates_of
returns-clause-coordinates c =
    let fx : SFits w32 c.args.vertex.x = search rules in
    let fy : SFits w32 c.args.vertex.y = search rules in
    let fz : SFits w32 c.args.vertex.z = search rules in
    copied _ (3 * c.args.i) 3 (simp to_z-of_z at c.copy_from_slice.ensures.after) refl (omega arith)

pub returns-clause-mark : goal.returns-clause-mark
unfolding marks_of
returns-clause-mark c = refl
