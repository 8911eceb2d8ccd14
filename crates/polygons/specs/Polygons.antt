-- Faces of 3 to 8 sides, by paper 02. "A table of side counts comes with the corners": one number per face, and the corners are listed face by face.
use Rattle.std.specs.Prelude.{◌≡◌, Bool, false, cond, not, ◌||◌, List, [], ◌∷◌, ℕ, suc, ◌+◌, ◌-◌, ◌%◌, ◌<◌, length, get_or, eqb, ltb}
use Rattle.search.specs.Search.{any}
use Rattle.topology.specs.Shape.{Shape, quads}

-- the side after side j of a face of c sides, and the side before it
unfoldable pub side_after : ℕ → ℕ → ℕ
side_after c j = cond (ltb (j + 1) c) (j + 1) 0

unfoldable pub side_before : ℕ → ℕ → ℕ
side_before c j = cond (ltb 0 j) (j - 1) (c - 1)

-- a first face of c sides, then the faces of S
unfoldable pub face_then : ℕ → Shape → Shape
face_then c S = record {
  next = λ h. cond (ltb h c) (side_after c h) (c + S.next (h - c));
  prev = λ h. cond (ltb h c) (side_before c h) (c + S.prev (h - c));
  face = λ h. cond (ltb h c) 0 (suc (S.face (h - c)));
  sides = λ h. cond (ltb h c) c (S.sides (h - c));
  faces = λ n. suc (S.faces (n - c));
}

-- no face
unfoldable pub no_face : Shape
no_face = record { next = λ h. h; prev = λ h. h; face = λ h. 0; sides = λ h. 0; faces = λ n. 0 }

unfoldable pub polygons : List ℕ → Shape
polygons [] = no_face
polygons (c ∷ s) = face_then c (polygons s)

-- "a call without one, or with an empty one, is as before": the corners go by fours
unfoldable pub shape_of : List ℕ → Shape
shape_of [] = quads
shape_of (c ∷ s) = polygons (c ∷ s)

-- the sum of the side counts
unfoldable pub total : List ℕ → ℕ
total [] = 0
total (c ∷ s) = c + total s

-- 14: "a side count outside 3 to 8 or counts that do not add up to the corner table", of n corners
unfoldable pub bad_count : ℕ → Bool
bad_count c = ltb c 3 || ltb 8 c

unfoldable pub bad_sides : List ℕ → ℕ → Bool
bad_sides s n = any (λ (f : ℕ). bad_count (get_or s f 0)) (length s) || not (eqb (total s) n)

-- n corners fall into the faces that s tells
pub record Sided (s : List ℕ) (n : ℕ) : Type 0 where
  pub fours : length s ≡ 0 → n % 4 ≡ 0
  pub counts : 0 < length s → bad_sides s n ≡ false
