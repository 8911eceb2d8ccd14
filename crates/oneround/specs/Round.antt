-- A round in the caller's tables.
use Rattle.std.specs.Prelude.{◌≡◌, ℕ, ◌*◌, ◌≤◌, length, take, drop}
use Rattle.bounds.specs.Bounds.{max_half_edges}
use Rattle.curve.specs.Weights.{tension}
use Rattle.rings.specs.Scales.{coordinate_range}
use Rattle.nets.specs.Buffers.{Buffers, front}
use Rattle.tables.specs.Tables.{filled}
use Rattle.scheme.specs.Step.{step}
use Rattle.schemelaws.specs.Nets.{Refinable}
use Rattle.integers.specs.Within.{Within}
use Rattle.halfedges.specs.Tables.{MateTable}
use Rattle.ringsizes.specs.Classes.{Classes}

-- the net at the front can be refined, its mates stand in the work table, the classes of its vertices from `at` on, and all tables have room for the refined net
pub record Current (t v n at initial : ℕ) (B : Buffers) : Type 0 where
  pub low : t ≤ 4
  pub refinable : Refinable (front v n B)
  pub within : Within coordinate_range (take (3 * v) B.vertices)
  pub small : n ≤ max_half_edges
  pub vertices : v ≤ n
  pub room_points : 12 * n ≤ length B.vertices
  pub room_faces : 4 * n ≤ length B.faces
  pub room_marks : 4 * n ≤ length B.marks
  pub room_work : 8 * n ≤ length B.work
  pub mated : MateTable (take n B.faces) B.work
  pub behind : 8 * n ≤ at
  pub classes : Classes v at initial (take n B.faces) B.work

-- the tables after the round: the refined net of r vertices at their front, the mates of the net before it in the work table; past that all is as found.
-- Open, and may differ between correct programs: what stands between the mates and place 8n of the work table
pub record Refines (t v n r : ℕ) (B B' : Buffers) : Type 0 where
  pub count : r ≡ length (step (tension t) (front v n B)).marks
  pub new_points : B'.vertices ≡ filled (step (tension t) (front v n B)).vertices B.vertices
  pub new_faces : B'.faces ≡ filled (step (tension t) (front v n B)).faces B.faces
  pub new_marks : B'.marks ≡ filled (step (tension t) (front v n B)).marks B.marks
  pub mated : MateTable (take n B.faces) B'.work
  pub rest : drop (8 * n) B'.work ≡ drop (8 * n) B.work
