-- What the mate table depends on. Assumes nothing.
use mathlib.Core.Path.{◌≡◌, ◌∙◌}
use mathlib.Core.List.{List}
use Prim.Native.Nat.{ℕ, ◌<◌}
use lib.ListN.{length, get_or}
use Rattle.topology.specs.Shape.{Shape}
use Rattle.halfedges.specs.Tables.{MateTableOf}

pub mates_cong : {S : Shape} (l w w' : List ℕ) → ((i : ℕ) → i < length l → get_or w' i 0 ≡ get_or w i 0) → MateTableOf S l w → MateTableOf S l w'
mates_cong l w w' f m = record { mates = λ g a. f g a ∙ m.mates g a }
