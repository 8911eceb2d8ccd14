-- Small nets with four-sided faces.
use mathlib.Core.List.{List, [], ◌∷◌}
use Prim.Native.Nat.{ℕ, zero, suc, ◌+◌, ◌*◌, ◌/◌, ◌%◌}
use Rattle.lists.specs.Tabulate.{tabulate}

unfoldable pub square : List ℕ
square = 0 ∷ 1 ∷ 2 ∷ 3 ∷ []

-- two by two squares
unfoldable pub grid : List ℕ
grid = 0 ∷ 1 ∷ 4 ∷ 3 ∷ 1 ∷ 2 ∷ 5 ∷ 4 ∷ 3 ∷ 4 ∷ 7 ∷ 6 ∷ 4 ∷ 5 ∷ 8 ∷ 7 ∷ []

unfoldable pub cube : List ℕ
cube = 0 ∷ 3 ∷ 2 ∷ 1 ∷ 4 ∷ 5 ∷ 6 ∷ 7 ∷ 0 ∷ 1 ∷ 5 ∷ 4 ∷ 1 ∷ 2 ∷ 6 ∷ 5 ∷ 2 ∷ 3 ∷ 7 ∷ 6 ∷ 3 ∷ 0 ∷ 4 ∷ 7 ∷ []

-- m faces 0, 2i + 1, 2i + 2, 2i + 3 at vertex 0: an open fan, or a full ring that ends where it began
unfoldable pub fan_corner : ℕ → ℕ → ℕ
fan_corner i zero = 0
fan_corner i (suc j) = 2 * i + suc j

unfoldable pub fan_of : ℕ → List ℕ
fan_of m = tabulate (4 * m) (λ (h : ℕ). fan_corner (h / 4) (h % 4))

unfoldable pub ring_corner : ℕ → ℕ → ℕ → ℕ
ring_corner m i zero = 0
ring_corner m i (suc j) = (2 * i + j) % (2 * m) + 1

unfoldable pub ring_of : ℕ → List ℕ
ring_of m = tabulate (4 * m) (λ (h : ℕ). ring_corner m (h / 4) (h % 4))
