-- The caller's tables of points and marks during a round.
use Rattle.std.specs.Prelude.{◌≡◌, List, ◌++◌, ℕ, zero, suc, ◌+◌, ◌*◌, ◌/◌, ◌%◌, ◌≤◌, ◌<◌, ℤ, nat_abs, length, set, drop}
use Rattle.lists.specs.Tabulate.{tabulate}
use Rattle.integers.specs.Within.{Within}
use Rattle.topology.specs.HalfEdge.{from}
use Rattle.rings.specs.Scales.{coordinate_range}
use Rattle.coordinates.specs.declared.Axes.{Axes}

-- the three coordinates of vertex v are in the table p
abbrev pub InTable : List ℤ → ℕ → Type 0
InTable p v = 3 * v + 2 < length p

-- three coordinates for each corner of l, none beyond the largest coordinate
pub record Points (l : List ℕ) (p : List ℤ) : Type 0 where
  pub room : (h : ℕ) → h < length l → InTable p (from l h)
  pub bounded : Within coordinate_range p

-- a mark for each corner of l
pub record Marks (l marks : List ℕ) : Type 0 where
  pub room : (h : ℕ) → h < length l → from l h < length marks

-- x, y and z are f at the axes 0, 1 and 2
pub record OnAxes (f : ℕ → ℤ) (x y z : ℤ) : Type 0 where
  pub on₀ : x ≡ f 0
  pub on₁ : y ≡ f 1
  pub on₂ : z ≡ f 2

-- what p has for axis a
abbrev pub on : {A : Type 0} → Axes A → ℕ → A
on p zero = p.x
on p (suc zero) = p.y
on p (suc (suc a)) = p.z

-- no coordinate of p exceeds B
pub record Bounded (B : ℕ) (p : Axes ℤ) : Type 0 where
  pub on₀ : nat_abs p.x ≤ B
  pub on₁ : nat_abs p.y ≤ B
  pub on₂ : nat_abs p.z ≤ B

-- t with the coordinates of vertex i
unfoldable pub put_point : List ℤ → ℕ → ℤ → ℤ → ℤ → List ℤ
put_point t i x y z = set (set (set t (3 * i) x) (3 * i + 1) y) (3 * i + 2) z

-- t is o with the first i points over its front: coordinate a of point j is G a j
pub record PointsWritten (G : ℕ → ℕ → ℤ) (o t : List ℤ) (i : ℕ) : Type 0 where
  pub kept : length t ≡ length o
  pub points : t ≡ tabulate (3 * i) (λ (k : ℕ). G (k % 3) (k / 3)) ++ drop (3 * i) o
