-- What an origin says of a refined vertex. Paper 02: "its letter is that of its own case, V exactly for drawn points, and the rule that any other letter names, applied
-- to the net before its round (for S the drawn net), gives that point."
use Rattle.std.specs.Prelude.{◌≡◌, ◌↔◌, List, ℕ, ◌≤◌, ◌<◌, ℤ, length}
use Rattle.curve.specs.Weights.{Weights}
use Rattle.fractions.specs.Fraction.{to_whole}
use Rattle.topology.specs.Shape.{quads}
use Rattle.polygons.specs.Polygons.{shape_of}
use Rattle.refinedfaces.specs.Refined.{refined_vertices}
use Rattle.nets.specs.Net.{Net, ControlNet, axis}
use Rattle.splitting.specs.Splitting.{split_value}
use Rattle.origins.specs.Origins.{Rule, Origin, control_vertex, split_point, made_by, new_rule, rule_value}

-- vertex i of a table is new in the round on the net n, r is its own case there, and the rule r gives its point, rounded once
pub record MadeIn (w : Weights) (n : Net) (r : Rule) (vertices : List ℤ) (i : ℕ) : Type 0 where
  pub new : length n.marks ≤ i
  pub among : i < refined_vertices quads (length n.marks) n.faces
  pub own : r ≡ new_rule n.faces n.marks i
  pub point : (a : ℕ) → a < 3 → axis vertices a i ≡ to_whole (rule_value w n.faces n.marks (axis n.vertices a) i r)

-- vertex i of a table is new in the split of the net m, which gives its point, rounded once
pub record MadeInSplit (m : ControlNet) (vertices : List ℤ) (i : ℕ) : Type 0 where
  pub counted : 0 < length m.sides
  pub new : length m.marks ≤ i
  pub among : i < refined_vertices (shape_of m.sides) (length m.marks) m.faces
  pub point : (a : ℕ) → a < 3 → axis vertices a i ≡ to_whole (split_value (shape_of m.sides) (length m.marks) m.faces (axis m.vertices a) i)

-- the rule r made vertex i in one of k rounds; `after` gives the net after each number of rounds
pub record MadeEarlier (w : Weights) (after : ℕ → Net) (k i : ℕ) (r : Rule) : Type 0 where
  pub round : ℕ
  pub earlier : round < k
  pub made : MadeIn w (after round) r (after k).vertices i

-- vertex i of the net m after k rounds is of the origin o
pub record HasOrigin (w : Weights) (m : ControlNet) (after : ℕ → Net) (k i : ℕ) (o : Origin) : Type 0 where
  pub control : (o ≡ control_vertex) ↔ (i < length m.marks)
  pub split : o ≡ split_point → MadeInSplit m (after k).vertices i
  pub made : (r : Rule) → o ≡ made_by r → MadeEarlier w after k i r
