-- Letters in the caller's table, of a net with corners l and marks, whose mates stand at the front of w, and the entries of its edges behind them.
use Rattle.std.specs.Prelude.{◌≡◌, Bool, true, false, List, ℕ, ◌+◌, ◌*◌, ◌≤◌, ◌<◌, length, get_or}
use Rattle.tables.specs.Tables.{Written}
use Rattle.topology.specs.Shape.{quads}
use Rattle.topology.specs.HalfEdge.{mate, edge_count, edge}
use Rattle.topology.specs.Boundary.{OnBoundary}
use Rattle.topology.specs.Quads.{across}
use Rattle.topology.specs.Manifold.{Oriented}
use Rattle.refinedfaces.specs.Refined.{refined_vertices}
use Rattle.halfedges.specs.Tables.{Connectivity}
use Rattle.edgeentries.specs.Entry.{boundary_flag, entry_of, edge_of}
use Rattle.origins.specs.Origins.{made_by, letter_of, new_rule, start_origin}

-- the letter of vertex i where refining begins: "V drawn", "S made by P1's split"
abbrev pub start_letter : (control : ℕ) → ℕ → ℕ
start_letter control i = letter_of (start_origin control i)

-- the letter of the new vertex i of a round
abbrev pub new_letter : (l marks : List ℕ) → ℕ → ℕ
new_letter l marks i = letter_of (made_by (new_rule l marks i))

-- the new vertices whose letters the boundary half-edge g decides: of its edge, of its face, and of the face beyond the opposite side
pub data Touches (l marks : List ℕ) (g i : ℕ) : Type 0 where
  on_edge : i ≡ length marks + edge quads l g → Touches l marks g i
  in_face : i ≡ length marks + edge_count quads l + quads.face g → Touches l marks g i
  in_far_face : mate quads l (across g) < length l → i ≡ length marks + edge_count quads l + quads.face (mate quads l (across g)) → Touches l marks g i

-- s' is s but for letters of new vertices: right ones stay right, and those that the boundary half-edges from a up to e touch are right
pub record Corrected (l marks : List ℕ) (a e : ℕ) (s s' : List ℕ) : Type 0 where
  pub before : (i : ℕ) → i < length marks → get_or s' i 0 ≡ get_or s i 0
  pub behind : (i : ℕ) → refined_vertices quads (length marks) l ≤ i → get_or s' i 0 ≡ get_or s i 0
  pub kept : (i : ℕ) → get_or s i 0 ≡ new_letter l marks i → get_or s' i 0 ≡ new_letter l marks i
  pub touched : (g i : ℕ) → a ≤ g → g < e → OnBoundary quads l g → Touches l marks g i → get_or s' i 0 ≡ new_letter l marks i

-- what writing the letters of a round asks of the tables: an oriented net, its mates at the front of w, the entries of its edges behind them, and room for a letter of
-- each refined vertex
pub record Nameable (l marks w letters : List ℕ) : Type 0 where
  pub net : Oriented quads (length marks) l
  pub table : Connectivity l w
  pub entries : 2 * length l ≤ length w
  pub numbered : (g : ℕ) → g < length l → edge_of (entry_of (length l) w g) ≡ edge quads l g
  pub inner : (g : ℕ) → g < length l → mate quads l g < length l → entry_of (length l) w g < boundary_flag
  pub boundary : (g : ℕ) → g < length l → mate quads l g ≡ length l → boundary_flag ≤ entry_of (length l) w g
  pub room : refined_vertices quads (length marks) l ≤ length letters

-- where letters are asked for, s' is s with those of f from a up to e; else nothing is written
pub record WrittenIf (asked : Bool) (a e : ℕ) (f : ℕ → ℕ) (s s' : List ℕ) : Type 0 where
  pub all : asked ≡ true → Written a e f s s'
  pub none : asked ≡ false → s' ≡ s
