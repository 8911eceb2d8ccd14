-- Laws of nets as tables. Assumes nothing.
use mathlib.Core.Path.{◌≡◌}
use mathlib.Core.List.{List}
use Prim.Native.Nat.{ℕ}
use lib.IntN.{ℤ}
use Rattle.nets.specs.Net.{Net}

-- nets of equal tables
pub same-net : {p p' : List ℤ} {f f' m m' : List ℕ} → p ≡ p' → f ≡ f' → m ≡ m' → ◌≡◌ {A = Net} (record { vertices = p; faces = f; marks = m }) (record { vertices = p'; faces = f'; marks = m' })
same-net p q r = λ i. record { vertices = p i; faces = q i; marks = r i }
