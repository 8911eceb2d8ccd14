-- Rounds in the caller's tables.
use Rattle.std.specs.Prelude.{◌≡◌, Bool, true, List, ℕ, ◌*◌, ◌^◌, ◌≤◌, length, take, drop}
use Rattle.bounds.specs.Bounds.{max_rounds, max_coordinate, max_refined_corners}
use Rattle.curve.specs.Weights.{tension}
use Rattle.tables.specs.Tables.{filled}
use Rattle.scheme.specs.Step.{steps}
use Rattle.schemelaws.specs.Nets.{Refinable}
use Rattle.integers.specs.Within.{Within}
use Rattle.halfedges.specs.Tables.{MateTable}
use Rattle.nets.specs.Net.{Net}
use Rattle.nets.specs.Buffers.{Buffers, front}
use Rattle.origins.specs.Origins.{Origin, letter_of, origin_from}
use Rattle.letters.specs.Letters.{WrittenIf}

-- the net of v vertices and n corners at the front can be refined k times, to `last` faces, its mates stand in the work table, and all tables have room for the refined net
pub record Prepared (t k v n last : ℕ) (B : Buffers) : Type 0 where
  pub low : t ≤ 4
  pub refinable : Refinable (front v n B)
  pub within : Within max_coordinate (take (3 * v) B.vertices)
  pub few : k ≤ max_rounds
  pub vertices : v ≤ n
  pub size : n * 4 ^ k ≡ 4 * last
  pub final : n * 4 ^ k ≤ max_refined_corners
  pub room_points : 3 * (n * 4 ^ k) ≤ length B.vertices
  pub room_faces : n * 4 ^ k ≤ length B.faces
  pub room_marks : n * 4 ^ k ≤ length B.marks
  pub room_work : 4 * (n * 4 ^ k) ≤ length B.work
  pub mated : MateTable (take n B.faces) B.work

-- the tables after i rounds: r vertices of the refined net at their front; past that all is as found.
-- Open, and may differ between correct programs: what stands before place 3n * 4^i of the work table
pub record After (t i v n r : ℕ) (B B' : Buffers) : Type 0 where
  pub count : r ≡ length (steps (tension t) i (front v n B)).marks
  pub corners : n * 4 ^ i ≡ length (steps (tension t) i (front v n B)).faces
  pub fewer : r ≤ n * 4 ^ i
  pub new_points : B'.vertices ≡ filled (steps (tension t) i (front v n B)).vertices B.vertices
  pub new_faces : B'.faces ≡ filled (steps (tension t) i (front v n B)).faces B.faces
  pub new_marks : B'.marks ≡ filled (steps (tension t) i (front v n B)).marks B.marks
  pub kept : length B'.work ≡ length B.work
  pub rest : drop (3 * (n * 4 ^ i)) B'.work ≡ drop (3 * (n * 4 ^ i)) B.work

-- where letters are asked for, their table holds at least n
abbrev pub LettersFit : Bool → (n : ℕ) → List ℕ → Type 0
LettersFit asked n s = asked ≡ true → n ≤ length s

-- the letter table s' after k rounds on the net m, from s: where letters are asked for, those of the vertices from v up to r, which the rounds made; whatever the
-- origins of the vertices of m
abbrev pub LettersAfter : (asked : Bool) (t k v r : ℕ) → Net → (s s' : List ℕ) → Type 0
LettersAfter asked t k v r m s s' = (o : ℕ → Origin) → WrittenIf asked v r (λ (i : ℕ). letter_of (origin_from (tension t) o m k i)) s s'
