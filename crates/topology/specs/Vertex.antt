-- The faces at a vertex, met by turning round it.
use Rattle.std.specs.Prelude.{◌≡◌, Bool, cond, ◌||◌, List, ℕ, suc, ◌<◌, length, eqb, ltb}
use Rattle.search.specs.Search.{first, count, iterate}
use Rattle.topology.specs.Shape.{Shape}
use Rattle.topology.specs.HalfEdge.{from, mate}
use Rattle.topology.specs.Boundary.{boundary_from}

-- whether the half-edge g leaves the vertex p
unfoldable pub leaves : List ℕ → ℕ → ℕ → Bool
leaves l p g = eqb (from l g) p

-- the number of faces at p: one half-edge of each leaves p, past refusal 7
unfoldable pub valence : List ℕ → ℕ → ℕ
valence l p = count (leaves l p) (length l)

-- the half-edge that leaves the vertex of h in the face beyond the side before h, or none
unfoldable pub turn : Shape → List ℕ → ℕ → ℕ
turn S l h = mate S l (S.prev h)

abbrev pub turns : Shape → List ℕ → ℕ → ℕ → ℕ
turns S l k h = iterate (turn S l) k h

-- turning the other way, where h has a mate
unfoldable pub unturn : Shape → List ℕ → ℕ → ℕ
unturn S l h = S.next (mate S l h)

-- where turning round p starts: at the boundary half-edge that leaves p, if there is one
unfoldable pub start : Shape → List ℕ → ℕ → ℕ
start S l p = cond (ltb (boundary_from S l p) (length l)) (boundary_from S l p) (first (leaves l p) (length l))

-- whether after k + 1 turns from h there is no face, or one is back at h
unfoldable pub stops : Shape → List ℕ → ℕ → ℕ → Bool
stops S l h k = eqb (turns S l (suc k) h) (length l) || eqb (turns S l (suc k) h) h

-- how many faces one meets in turning from h
unfoldable pub faces_met : Shape → List ℕ → ℕ → ℕ
faces_met S l h = suc (first (stops S l h) (length l))

-- m turns from h meet each face at p
pub record Walk (S : Shape) (l : List ℕ) (p h m : ℕ) : Type 0 where
  pub leaves : from l h ≡ p
  pub inside : (k : ℕ) → k < m → turns S l k h < length l
  pub all : (g : ℕ) → g < length l → from l g ≡ p → (k : ℕ) × (k < m) × (turns S l k h ≡ g)

-- "one full ring": back at h after m turns, and not before
pub record Ring (S : Shape) (l : List ℕ) (p h m : ℕ) : Type 0 where
  pub walk : Walk S l p h m
  pub some : 0 < m
  pub back : turns S l m h ≡ h
  pub not_before : (k : ℕ) → 0 < k → k < m → turns S l k h ≡ h → ⊥

-- "one open fan": no face before that of h, and none after m turns
pub record Fan (S : Shape) (l : List ℕ) (p h m : ℕ) : Type 0 where
  pub walk : Walk S l p h m
  pub some : 0 < m
  pub opens : mate S l h ≡ length l
  pub ends : turns S l m h ≡ length l
