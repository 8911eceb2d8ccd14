-- `reading::store_face` meets its contract. Assumes nothing.
use mathlib.Core.Path.{refl}
use Prim.Native.Nat.{◌*◌}
use native.Mathlib.Omega.{arith}
use Rattle.readingform.specs.Loaded.{corners_of}
use Rattle.decimal.proofs.Copies.{copied}
use Rattle.reading.proofs.store_face.Goals as goal

pub returns : goal.returns
unfolding corners_of
returns c = copied _ (4 * c.args.i) 4 c.copy_from_slice.ensures.after refl (omega arith)
