-- The cases that paper 01 marks P, in its order, in one table: what the definitions give at tension 4, and what the paper states, in two rows as paper 02 changes it. Other
-- rows follow: points of the same nets at other tensions and from unrounded edge points, refusal 16, nets with other faces, letters.
use Rattle.std.specs.Prelude.{◌≡◌, false, List, [], ◌∷◌, ◌++◌, ℕ, zero, suc, ◌*◌, ◌<◌, ℤ, pos, negsuc, ◌*ℤ◌, length, get_or, take, drop}
use Prim.Native.String.{String}
use Rattle.curve.specs.Weights.{tension}
use Rattle.curve.specs.Curve.{Open, Closed, rounded, curve_step, Point, curve}
use Rattle.nets.specs.Net.{Net, ControlNet, control_net, plain, axis}
use Rattle.verdict.specs.Call.{Room, room, lengths, call}
use Rattle.verdict.specs.Verdict.{Verdict, accepted, refused, limits_verdict, call_verdict, net_verdict}
use Rattle.fractions.specs.Fraction.{Fraction}
use Rattle.scheme.specs.Points.{edge_point, face_point}
use Rattle.scheme.specs.Step.{refined_coordinate}
use Rattle.splitting.specs.Splitting.{start_net}
use Rattle.origins.specs.Origins.{letters}
use Rattle.cases.specs.Digits.{integers, naturals, characters}

pub record Case : Type 0 where
  pub computed : List ℤ
  pub stated : List ℤ

-- these numbers are those of the text
abbrev pub row_of : List ℤ → String → Case
row_of computed stated = record { computed = computed; stated = integers stated }

-- the fraction is n / d
abbrev pub fraction_row : Fraction → (n : ℤ) (d : ℕ) → Case
fraction_row z n d = record { computed = (z.num *ℤ pos d) ∷ []; stated = (n *ℤ pos z.den) ∷ [] }

abbrev pub as_integers : List ℕ → List ℤ
as_integers [] = []
as_integers (n ∷ l) = pos n ∷ as_integers l

-- ---- nets: coordinates x y z of the vertices, corners of the faces, marks
abbrev pub net_from : (vertices faces marks : String) → Net
net_from vertices faces marks = record { vertices = integers vertices; faces = naturals faces; marks = naturals marks }

abbrev pub square : Net
square = net_from "0 0 0, 16 0 0, 16 16 0, 0 16 0" "0 1 2 3" "0 0 0 0"

abbrev pub cube : Net
cube =
    net_from "-540 -540 -540, 540 -540 -540, 540 540 -540, -540 540 -540, -540 -540 540, 540 -540 540, 540 540 540, -540 540 540"
    "0 3 2 1, 4 5 6 7, 0 1 5 4, 1 2 6 5, 2 3 7 6, 3 0 4 7" "0 0 0 0 0 0 0 0"

abbrev pub raised : Net
raised = net_from "0 0 0, 16 0 0, 32 0 0, 0 16 0, 16 16 16, 32 16 0, 0 32 0, 16 32 0, 32 32 0" "0 1 4 3, 1 2 5 4, 3 4 7 6, 4 5 8 7" "1 0 1 0 0 0 1 0 1"

-- the square with one vertex one count higher: its edge points have z = -1/16, -1/16, 9/16, 9/16
abbrev pub tilted : Net
tilted = net_from "0 0 0, 16 0 0, 16 16 0, 0 16 1" "0 1 2 3" "0 0 0 0"

-- v vertices at the origin, without marks
abbrev pub flat : ℕ → List ℤ
flat zero = []
flat (suc v) = pos 0 ∷ pos 0 ∷ pos 0 ∷ flat v

abbrev pub unmarked : ℕ → List ℕ
unmarked zero = []
unmarked (suc v) = 0 ∷ unmarked v

abbrev pub flat_net : ℕ → (faces : String) → Net
flat_net v faces = record { vertices = flat v; faces = naturals faces; marks = unmarked v }

-- ---- what the definitions give
-- the points with these coordinates x y z, and the coordinates of points
abbrev pub points_of : List ℤ → List Point
points_of [] = []
points_of (x ∷ []) = []
points_of (x ∷ y ∷ []) = []
points_of (x ∷ y ∷ z ∷ l) = record { x = x; y = y; z = z } ∷ points_of l

abbrev pub coordinates_of : List Point → List ℤ
coordinates_of [] = []
coordinates_of (p ∷ l) = p.x ∷ p.y ∷ p.z ∷ coordinates_of l

-- the point inside a segment from four consecutive ones
abbrev pub inside_point : List ℤ → List ℤ
inside_point l = (rounded (tension 4)).inside (get_or l 0 (pos 0)) (get_or l 1 (pos 0)) (get_or l 2 (pos 0)) (get_or l 3 (pos 0)) ∷ []

-- coordinate a of the vertex i after one round at tension t; and x, y, z of some vertices
abbrev pub made_coordinate : (t : ℕ) → Net → (a i : ℕ) → ℤ
made_coordinate t m a i = refined_coordinate (tension t) (length m.marks) m.faces m.marks (axis m.vertices a) i

abbrev pub made_points : (t : ℕ) → Net → List ℕ → List ℤ
made_points t m [] = []
made_points t m (i ∷ l) = made_coordinate t m 0 i ∷ made_coordinate t m 1 i ∷ made_coordinate t m 2 i ∷ made_points t m l

abbrev pub made_heights : (t : ℕ) → Net → List ℕ → List ℤ
made_heights t m [] = []
made_heights t m (i ∷ l) = made_coordinate t m 2 i ∷ made_heights t m l

-- the exact z of the point of face f, and of that of side h
abbrev pub face_point_z : (t : ℕ) → Net → ℕ → Fraction
face_point_z t m f = face_point (tension t) m.faces m.marks (axis m.vertices 2) f

abbrev pub side_point_z : (t : ℕ) → Net → ℕ → Fraction
side_point_z t m h = edge_point (tension t) m.faces m.marks (axis m.vertices 2) h

-- a refusal as its number and its place, or nothing
abbrev pub answer : Verdict → List ℤ
answer accepted = []
answer (refused r p) = pos r ∷ pos p ∷ []

abbrev pub ample : Room
ample = room 4000000 4000000 4000000 false 0 5000000

-- the verdict on f faces at 6 rounds, and on a square with first coordinate x
abbrev pub faces_answer : ℕ → List ℤ
faces_answer f = answer (limits_verdict 6 [] (lengths 300 (4 * f) 100 ample))

abbrev pub square_from : ℤ → Net
square_from x = record { vertices = x ∷ pos 0 ∷ pos 0 ∷ flat 3; faces = naturals "0 1 2 3"; marks = unmarked 4 }

abbrev pub net_answer : Net → List ℤ
net_answer m = answer (net_verdict (plain m))

-- ---- paper 01's cases
abbrev pub paper_cases : List Case
paper_cases =
    -- "this square without marks: edge points (8,-2), (18,8), (8,18), (-2,8), face point (8,8)."
    row_of (made_points 4 square (4 ∷ 5 ∷ 6 ∷ 7 ∷ 8 ∷ [])) "(8,-2,0), (18,8,0), (8,18,0), (-2,8,0), (8,8,0)"
    -- "open stretch 0, 16, 32, 80 on one axis gives 8, 22, 54."
    ∷ row_of (curve_step (rounded (tension 4)) Open (integers "0, 16, 32, 80")) "0, 8, 16, 22, 32, 54, 80"
    -- Paper 02: "the stretch 0, 0, 0, 8 gives 0". Paper 01: "-8, 0, 0, 0 gives 1; 0, 0, 0, -7 gives 0."
    ∷ row_of (inside_point (integers "0, 0, 0, 8")) "0"
    ∷ row_of (inside_point (integers "-8, 0, 0, 0")) "1"
    ∷ row_of (inside_point (integers "0, 0, 0, -7")) "0"
    -- "cube with corners at ±540: edge point (0,-590,-590)", and the face point at z = -540 from -737.5. Paper 02: "So -737.5 gives -737"
    ∷ row_of (made_points 4 cube (11 ∷ 20 ∷ [])) "(0,-590,-590), (0,0,-737)"
    ∷ fraction_row (face_point_z 4 cube 0) (negsuc 1474) 2
    -- "two by two squares of side 16, four outer corners marked, centre raised to z = 16, rest 0: inner edge points have z = 10, face points z = 6 (100/16)."
    ∷ row_of (made_heights 4 raised (10 ∷ 11 ∷ 15 ∷ 16 ∷ [])) "10 10 10 10"
    ∷ row_of (made_heights 4 raised (21 ∷ 22 ∷ 23 ∷ 24 ∷ [])) "6 6 6 6"
    ∷ fraction_row (face_point_z 4 raised 0) (pos 100) 16
    ∷ fraction_row (face_point_z 4 raised 3) (pos 100) 16
    -- "64 faces, 6 rounds pass 3; 65 do not."
    ∷ row_of (faces_answer 64) ""
    ∷ row_of (faces_answer 65) "3 0"
    -- "two squares touching at one vertex: 10. One face listed twice: 9, place 1."
    ∷ row_of (net_answer (flat_net 7 "0 1 2 3, 2 4 5 6")) "10 2"
    ∷ row_of (net_answer (flat_net 4 "0 1 2 3, 0 1 2 3")) "9 1"
    -- "coordinate 1,048,576 passes; 1,048,577 gives 5."
    ∷ row_of (net_answer (square_from (pos 1048576))) ""
    ∷ row_of (net_answer (square_from (pos 1048577))) "5 0"
    ∷ []

-- ---- the curve and points of a round
abbrev pub point_cases : List Case
point_cases =
    -- the square's edge points stand on the curve of its boundary
    row_of (coordinates_of (curve (tension 4) Closed 1 (points_of square.vertices))) "(0,0,0), (8,-2,0), (16,0,0), (18,8,0), (16,16,0), (8,18,0), (0,16,0), (-2,8,0)"
    -- the open segment at tensions 2 and 0
    ∷ row_of (curve_step (rounded (tension 2)) Open (integers "0, 16, 32, 80")) "0, 8, 16, 23, 32, 55, 80"
    ∷ row_of (curve_step (rounded (tension 0)) Open (integers "0, 16, 32, 80")) "0, 8, 16, 24, 32, 56, 80"
    -- "Face points use the unrounded edge points.": the face point's z is 0, from 1/4; from rounded edge points it would be 1. From the second implementation.
    ∷ row_of (made_points 4 tilted (6 ∷ 8 ∷ [])) "(8,18,1), (8,8,0)"
    -- the two by two squares at tension 2: inner edge points have z = 9, face points z = 5, from 81/16
    ∷ row_of (made_heights 2 raised (10 ∷ 16 ∷ 21 ∷ 24 ∷ [])) "9 9 5 5"
    ∷ fraction_row (face_point_z 2 raised 0) (pos 81) 16
    -- at tension 0 the midpoints of the square's sides
    ∷ row_of (made_points 0 square (4 ∷ 5 ∷ 6 ∷ 7 ∷ [])) "(8,0,0), (16,8,0), (8,16,0), (0,8,0)"
    -- the cube at tension 2: an edge point from -9585/17, the face point at z = -540 from -86265/136. From the second implementation.
    ∷ row_of (made_points 2 cube (11 ∷ 20 ∷ [])) "(0,-564,-564), (0,0,-634)"
    ∷ fraction_row (side_point_z 2 cube 3) (negsuc 9584) 17
    ∷ fraction_row (face_point_z 2 cube 0) (negsuc 86264) 136
    ∷ []

-- ---- refusal 16. Paper 02: "t above 4", "tested after 4"
abbrev pub tension_answer : (t : ℕ) → Room → List ℤ
tension_answer t room = answer (call_verdict (call 1 (plain square) t room))

abbrev pub tension_cases : List Case
tension_cases = row_of (tension_answer 4 ample) "" ∷ row_of (tension_answer 5 ample) "16 0" ∷ row_of (tension_answer 5 (room 0 0 0 false 0 0)) "4 0" ∷ []

-- ---- nets with other faces, split; worked out by hand from paper 02
abbrev pub sided_net : (vertices faces sides marks : String) → ControlNet
sided_net vertices faces sides marks = control_net (integers vertices) (naturals faces) (naturals sides) (naturals marks)

abbrev pub triangle : ControlNet
triangle = sided_net "0 0 0, 6 0 0, 0 6 0" "0 1 2" "3" "0 0 0"

-- a pentagon with the heights 0, 0, -1, 0, -2
abbrev pub pentagon : ControlNet
pentagon = sided_net "0 0 0, 0 0 0, 0 0 -1, 0 0 0, 0 0 -2" "0 1 2 3 4" "5" "0 0 0 0 0"

-- the square with its side count
abbrev pub square_sided : (sides marks : String) → ControlNet
square_sided sides marks = control_net square.vertices square.faces (naturals sides) (naturals marks)

-- z of the vertex i
abbrev pub height_of : Net → ℕ → ℤ
height_of m i = axis m.vertices 2 i

abbrev pub split_cases : List Case
split_cases =
    -- "The face point is the mean of its corners and each edge point the midpoint": a triangle 0 0, 6 0, 0 6 gives 3 0, 3 3, 0 3 and 2 2
    row_of (drop 9 (start_net triangle).vertices) "(3,0,0), (3,3,0), (0,3,0), (2,2,0)"
    -- "Sides and numbering follow the round in 01"
    ∷ row_of (as_integers (start_net triangle).faces) "0 3 6 5, 1 4 6 3, 2 5 6 4"
    -- "Four-sided faces are split too, and zero rounds gives the split net.": 8 0 on the first side, where a round gives 8 -2
    ∷ row_of (take 3 (drop 12 (start_net (square_sided "4" "0 0 0 0")).vertices)) "(8,0,0)"
    -- "rounded like any new point": -1/2, -1/2, -1 and -1 on the sides, -3/5 on the face
    ∷ row_of (let m = start_net pentagon in height_of m 5 ∷ height_of m 6 ∷ height_of m 7 ∷ height_of m 8 ∷ height_of m 9 ∷ height_of m 10 ∷ []) "0 0 0 -1 -1 -1"
    ∷ []

-- ---- letters. Paper 02: "V drawn, A within a stretch or round an unmarked loop, B end edge, M one-edge stretch, S made by P1's split, C inner edge, D one direction with
-- four inner edges or both, E any other face point"
abbrev pub letter_row : ControlNet → (rounds : ℕ) → String → Case
letter_row m k stated = record { computed = as_integers (letters (tension 4) m k); stated = as_integers (characters stated) }

abbrev pub letter_cases : List Case
letter_cases =
    letter_row (square_sided "" "1 1 1 1") 1 "VVVVMMMME"
    ∷ letter_row (square_sided "" "0 0 0 0") 1 "VVVVAAAAE"
    ∷ letter_row (square_sided "" "1 0 0 0") 1 "VVVVBAABE"
    ∷ letter_row (square_sided "4" "0 0 0 0") 0 "VVVVSSSSS"
    -- five squares in a row: D for the middle face alone
    ∷ letter_row (plain (flat_net 12 "0 1 7 6, 1 2 8 7, 2 3 9 8, 3 4 10 9, 4 5 11 10")) 1 "VVVVVVVVVVVVACAAACAACAACAAAAEEDEE"
    ∷ []

-- ---- the table
unfoldable pub cases : List Case
cases = paper_cases ++ point_cases ++ tension_cases ++ split_cases ++ letter_cases

-- at every row the definitions give what is stated
pub record AllHold (table : List Case) : Type 0 where
  pub hold : (k : ℕ) (c : Case) → k < length table → (get_or table k c).computed ≡ (get_or table k c).stated
