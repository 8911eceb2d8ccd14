-- The mates of a round's refined faces, in a work table w. The mate of h is at h, of n half-edges; the refined mates take the place of the old ones.
use Rattle.std.specs.Prelude.{◌≡◌, List, ℕ, ◌+◌, ◌*◌, ◌%◌, ◌≤◌, ◌<◌, length, get_or}
use Rattle.halfedges.specs.Tables.{Quadrilaterals}
use Rattle.refinedfaces.specs.Families.{Facing}
use Rattle.sidemates.specs.FirstMate.{first_mate}

-- the mates of face f of n half-edges, in a table that has room for the refined ones
pub record SidesIn (n f : ℕ) (w : List ℕ) : Type 0 where
  pub sides : Quadrilaterals n
  pub lt : 4 * f + 4 ≤ n
  pub room : 4 * n ≤ length w
  pub below : (g : ℕ) → 4 * f ≤ g → g < 4 * f + 4 → get_or w g 0 ≤ n

-- a mate for each of n half-edges, and room for four times as many
pub record MatesIn (n : ℕ) (w : List ℕ) : Type 0 where
  pub sides : Quadrilaterals n
  pub room : 4 * n ≤ length w
  pub below : (g : ℕ) → g < n → get_or w g 0 ≤ n

-- called with side i and the mate there, for the half-edges from a up to e, a closure answers with the mate of side 0 of the refined face
pub record FirstMates (pre : ℕ → ℕ → Type 0) (post : ℕ → ℕ → ℕ → Type 0) (n a e : ℕ) (w : List ℕ) : Type 0 where
  pub callable : (g i : ℕ) → a ≤ g → g < e → g % 4 ≡ i → pre i (get_or w g 0)
  pub gives : (g i r : ℕ) → a ≤ g → g < e → g % 4 ≡ i → post i (get_or w g 0) r → r ≡ first_mate n (get_or w g 0)

-- all mates lie as after a round
pub record LaterIn (n : ℕ) (w : List ℕ) : Type 0 where
  pub facing : (g : ℕ) → g < n → Facing n g (get_or w g 0)
