-- How the half-edges of a net are joined into faces. A half-edge is one side of one face; the corner table has one number per half-edge.
use Rattle.std.specs.Prelude.{◌≡◌, ℕ, ◌+◌, ◌*◌, ◌/◌, ◌%◌, ◌≤◌, ◌<◌}
use Rattle.search.specs.Search.{iterate}

pub record Shape : Type 0 where
  -- the half-edges after h and before it round its face
  pub next : ℕ → ℕ
  pub prev : ℕ → ℕ
  -- the face of h, and how many sides that face has
  pub face : ℕ → ℕ
  pub sides : ℕ → ℕ
  -- how many faces n half-edges make
  pub faces : ℕ → ℕ

-- "Side s of a face runs from corner s to corner s+1, counted modulo 4": side s of face f is the half-edge 4f + s
unfoldable pub quads : Shape
quads = record {
  next = λ h. 4 * (h / 4) + (h + 1) % 4;
  prev = λ h. 4 * (h / 4) + (h + 3) % 4;
  face = λ h. h / 4;
  sides = λ h. 4;
  faces = λ n. n / 4;
}

-- what the laws ask of a shape on n half-edges: going round a face meets each of its 3 to 8 sides once, and faces are numbered in the order of their sides
pub record Lawful (S : Shape) (n : ℕ) : Type 0 where
  pub next_prev : (h : ℕ) → S.next (S.prev h) ≡ h
  pub prev_next : (h : ℕ) → S.prev (S.next h) ≡ h
  pub next_lt : (h : ℕ) → h < n → S.next h < n
  pub prev_lt : (h : ℕ) → h < n → S.prev h < n
  pub face_next : (h : ℕ) → S.face (S.next h) ≡ S.face h
  pub face_le : (g h : ℕ) → g ≤ h → h < n → S.face g ≤ S.face h
  pub face_lt : (h : ℕ) → h < n → S.face h < S.faces n
  pub face_onto : (f : ℕ) → f < S.faces n → (h : ℕ) × (h < n) × (S.face h ≡ f)
  pub three : (h : ℕ) → h < n → 3 ≤ S.sides h
  pub eight : (h : ℕ) → h < n → S.sides h ≤ 8
  pub closes : (h : ℕ) → h < n → iterate S.next (S.sides h) h ≡ h
  pub not_before : (h k : ℕ) → h < n → 0 < k → k < S.sides h → iterate S.next k h ≡ h → ⊥
  pub all : (h g : ℕ) → h < n → g < n → S.face g ≡ S.face h → (k : ℕ) × (k < S.sides h) × (iterate S.next k h ≡ g)
