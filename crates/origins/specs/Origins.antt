-- Which rule made each refined point. Paper 02: "a letter beside each refined point: V drawn, A within a stretch or round an unmarked loop, B end edge, M one-edge
-- stretch, S made by P1's split, C inner edge, D one direction with four inner edges or both, E any other face point."
use Rattle.std.specs.Prelude.{cond, List, ℕ, zero, suc, ◌+◌, ◌-◌, ltb, ℤ, length}
use Rattle.lists.specs.Tabulate.{tabulate}
use Rattle.curve.specs.Weights.{Weights}
use Rattle.fractions.specs.Fraction.{Fraction}
use Rattle.topology.specs.Shape.{quads}
use Rattle.topology.specs.HalfEdge.{from, edge_count, edge_at}
use Rattle.nets.specs.Net.{Net, ControlNet, marked}
use Rattle.scheme.specs.Points.{EdgeRule, inside_segment, start_of_segment, end_of_segment, whole_segment, inner_rule, edge_rule, edge_value, edge_point, FaceRule, first_alone, second_alone, both_inner, neither_inner, face_rule, face_value}
use Rattle.scheme.specs.Step.{steps}
use Rattle.splitting.specs.Splitting.{start_net}

-- the rules of a round that have a letter each
pub data Rule : Type 0 where
  within_segment end_rule single_rule interior_edge four_inner_edges other_face : Rule

-- a vertex of the net as it is drawn, a point of the split, or a point that a round made by a rule
pub data Origin : Type 0 where
  control_vertex split_point : Origin
  made_by : Rule → Origin

-- the letters, as bytes
abbrev pub letter_of : Origin → ℕ
letter_of control_vertex = 86  -- V
letter_of split_point = 83  -- S
letter_of (made_by within_segment) = 65  -- A
letter_of (made_by end_rule) = 66  -- B
letter_of (made_by single_rule) = 77  -- M
letter_of (made_by interior_edge) = 67  -- C
letter_of (made_by four_inner_edges) = 68  -- D
letter_of (made_by other_face) = 69  -- E

-- ---- one round, on a net with corners l and marks: "its letter is that of its own case", by adjacency and marks alone
abbrev pub edge_case : EdgeRule → Rule
edge_case inside_segment = within_segment
edge_case start_of_segment = end_rule
edge_case end_of_segment = end_rule
edge_case whole_segment = single_rule
edge_case inner_rule = interior_edge

-- "D one direction with four inner edges or both"
abbrev pub face_case : FaceRule → Rule
face_case first_alone = four_inner_edges
face_case second_alone = four_inner_edges
face_case both_inner = four_inner_edges
face_case neither_inner = other_face

-- the half-edge at which the edge of the new vertex i is first met, and the face of the new vertex i: "Refined vertices are the old ones, then one per edge, then one per face."
abbrev pub side_of : (l marks : List ℕ) → ℕ → ℕ
side_of l marks i = edge_at quads l (i - length marks)

abbrev pub face_of : (l marks : List ℕ) → ℕ → ℕ
face_of l marks i = i - (length marks + edge_count quads l)

-- the rule that makes the new vertex i
unfoldable pub new_rule : (l marks : List ℕ) → ℕ → Rule
new_rule l marks i =
    cond (ltb i (length marks + edge_count quads l)) (edge_case (edge_rule l marks (side_of l marks i)))
    (face_case (face_rule l (face_of l marks i)))

-- ---- what the rule that a letter names gives for the new vertex i, on one coordinate p; the letter is taken at its word
-- D: the direction with four inner edges, or the mean if both have them; where neither has them, which no point with this letter is asked for, the first
abbrev pub four_inner_rule : FaceRule → FaceRule
four_inner_rule first_alone = first_alone
four_inner_rule second_alone = second_alone
four_inner_rule both_inner = both_inner
four_inner_rule neither_inner = first_alone

-- B: the end rule from the marked end. E: the mean
unfoldable pub rule_value : Weights → (l marks : List ℕ) → (ℕ → ℤ) → ℕ → Rule → Fraction
rule_value w l marks p i within_segment = edge_value w l p (side_of l marks i) inside_segment
rule_value w l marks p i end_rule = cond (marked marks (from l (side_of l marks i))) (edge_value w l p (side_of l marks i) start_of_segment) (edge_value w l p (side_of l marks i) end_of_segment)
rule_value w l marks p i single_rule = edge_value w l p (side_of l marks i) whole_segment
rule_value w l marks p i interior_edge = edge_value w l p (side_of l marks i) inner_rule
rule_value w l marks p i four_inner_edges = face_value w l (edge_point w l marks p) (face_of l marks i) (four_inner_rule (face_rule l (face_of l marks i)))
rule_value w l marks p i other_face = face_value w l (edge_point w l marks p) (face_of l marks i) neither_inner

-- ---- all rounds
-- vertex i where refining begins, of a net drawn with v vertices
unfoldable pub start_origin : (v : ℕ) → ℕ → Origin
start_origin v i = cond (ltb i v) control_vertex split_point

-- vertex i of the net n after k rounds, whose own vertices have the origins s. "Points kept from an earlier round keep the letter they were made with."
unfoldable pub origin_from : Weights → (ℕ → Origin) → Net → ℕ → ℕ → Origin
origin_from w s n zero i = s i
origin_from w s n (suc k) i =
    let before = steps w k n in
    cond (ltb i (length before.marks)) (origin_from w s n k i) (made_by (new_rule before.faces before.marks i))

-- vertex i of the net m after k rounds
unfoldable pub origin_after : Weights → ControlNet → ℕ → ℕ → Origin
origin_after w m k i = origin_from w (start_origin (length m.marks)) (start_net m) k i

-- the letters of all its vertices
unfoldable pub letters : Weights → ControlNet → ℕ → List ℕ
letters w m k = tabulate (length (steps w k (start_net m)).marks) (λ (i : ℕ). letter_of (origin_after w m k i))
