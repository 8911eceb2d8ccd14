-- `is_marked` meets its contract. Assumes nothing.
use mathlib.Core.Path.{refl}
use Rattle.nets.specs.Net.{marked}
use Rattle.edgerules.proofs.is_marked.Goals as goal

pub returns : goal.returns
unfolding marked
returns c = refl
