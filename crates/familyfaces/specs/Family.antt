-- The work table w of n half-edges where a round made the net: the faces 4p to 4p + 3 are those of one face.
use Rattle.std.specs.Prelude.{◌≡◌, List, ℕ, ◌+◌, ◌*◌, ◌%◌, ◌≤◌, ◌<◌, ℤ, get_or}
use Rattle.topology.specs.Shape.{quads}
use Rattle.refinedfaces.specs.Families.{Facing}
use Rattle.edgeentries.specs.Entry.{wide_flag, entry_of}
use Rattle.coordinates.specs.Points.{put_point}

-- mates as after a round; the edges inside the face that was split are plain, and have one entry for both half-edges
pub record FamilyTable (n : ℕ) (w : List ℕ) : Type 0 where
  pub whole : n % 16 ≡ 0
  pub facing : (g : ℕ) → g < n → Facing n g (get_or w g 0)
  pub second : (f : ℕ) → 4 * f < n → get_or w (4 * f + 1) 0 ≡ 4 * quads.next f + 2
  pub third : (f : ℕ) → 4 * f < n → get_or w (4 * f + 2) 0 ≡ 4 * quads.prev f + 1
  pub inside : (g : ℕ) → g < n → 0 < g % 4 → g % 4 < 3 → entry_of n w g < wide_flag
  pub shared : (f : ℕ) → 4 * f < n → entry_of n w (4 * f + 2) ≡ entry_of n w (4 * quads.prev f + 1)

-- the halves of the sides of the face p that was split are plain
pub record PlainSides (n : ℕ) (w : List ℕ) (p : ℕ) : Type 0 where
  pub first : (f : ℕ) → 4 * p ≤ f → f < 4 * p + 4 → entry_of n w (4 * f) < wide_flag
  pub last : (f : ℕ) → 4 * p ≤ f → f < 4 * p + 4 → entry_of n w (4 * f + 3) < wide_flag

-- t with the points f to f + 3, where coordinate a of point i is G a i
unfoldable pub put_family : (ℕ → ℕ → ℤ) → List ℤ → ℕ → List ℤ
put_family G t f =
    put_point (put_point (put_point (put_point t (f + 3) (G 0 (f + 3)) (G 1 (f + 3)) (G 2 (f + 3))) (f + 2) (G 0 (f + 2)) (G 1 (f + 2)) (G 2 (f + 2)))
    (f + 1) (G 0 (f + 1)) (G 1 (f + 1)) (G 2 (f + 1))) f (G 0 f) (G 1 f) (G 2 f)
