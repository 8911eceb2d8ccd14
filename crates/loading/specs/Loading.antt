-- The net where refining begins, brought to the caller's tables: the drawn net m itself, or its split where it has side counts.
use Rattle.std.specs.Prelude.{◌≡◌, ℕ, ◌*◌, ◌≤◌, ◌<◌, length, drop}
use Rattle.bounds.specs.Bounds.{max_faces, max_coordinate, max_corners}
use Rattle.integers.specs.Within.{Within}
use Rattle.polygons.specs.Polygons.{shape_of}
use Rattle.tables.specs.Tables.{filled}
use Rattle.nets.specs.Net.{ControlNet}
use Rattle.nets.specs.Buffers.{Buffers}
use Rattle.splitting.specs.Splitting.{split, start_net}
use Rattle.splitting.specs.WellFormed.{WellFormed}
use Rattle.halfedges.specs.Tables.{MateTableOf, MateTable}
use Rattle.sidetable.specs.Table.{Shaped}

-- an accepted net, with its mates and its shape in the work table, and room for the net where refining begins; 4,096 faces have 16,384 corners
pub record Loadable (m : ControlNet) (o : Buffers) : Type 0 where
  pub well_formed : WellFormed m
  pub within : Within max_coordinate m.vertices
  pub few : length m.faces ≤ max_corners
  pub few_split : 0 < length m.sides → length m.faces ≤ max_faces
  pub room_vertices : 3 * length (start_net m).faces ≤ length o.vertices
  pub room_faces : length (start_net m).faces ≤ length o.faces
  pub room_marks : length (start_net m).faces ≤ length o.marks
  pub room_work : 0 < length m.sides → 4 * length (start_net m).faces ≤ length o.work
  pub mated : MateTableOf (shape_of m.sides) m.faces o.work
  pub shaped : Shaped m.sides (length m.faces) o.work

-- the tables once a net with side counts is split, and the number of its vertices. Open, and may differ between correct programs: the first 2n work numbers,
-- n being the number of drawn corners
pub record SplitInto (m : ControlNet) (o o' : Buffers) (r : ℕ) : Type 0 where
  pub count : r ≡ length (split m).marks
  pub vertices : o'.vertices ≡ filled (split m).vertices o.vertices
  pub faces : o'.faces ≡ filled (split m).faces o.faces
  pub marks : o'.marks ≡ filled (split m).marks o.marks
  pub rest : drop (2 * length m.faces) o'.work ≡ drop (2 * length m.faces) o.work

-- the tables where refining begins, the number of vertices there, and the mates at the front of the work table. Open: what stands between the mates and four
-- numbers for each half-edge
pub record Loaded (m : ControlNet) (o o' : Buffers) (r : ℕ) : Type 0 where
  pub count : r ≡ length (start_net m).marks
  pub vertices : o'.vertices ≡ filled (start_net m).vertices o.vertices
  pub faces : o'.faces ≡ filled (start_net m).faces o.faces
  pub marks : o'.marks ≡ filled (start_net m).marks o.marks
  pub mated : MateTable (start_net m).faces o'.work
  pub rest : drop (4 * length (start_net m).faces) o'.work ≡ drop (4 * length (start_net m).faces) o.work
