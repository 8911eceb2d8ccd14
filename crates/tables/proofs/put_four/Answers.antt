-- `tables::put_four` meets its contract. Assumes nothing.
use mathlib.Core.Path.{refl}
use Rattle.tables.specs.Tables.{put_four}
use Rattle.tables.proofs.put_four.Goals as goal

pub returns : goal.returns
unfolding put_four
returns c = refl
