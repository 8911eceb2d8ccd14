-- The verdict of the check on a call: refused with a number and a place, or accepted. The first refusal that holds is given, in this order: 1; 2 for the vertex
-- table; 14 with side counts, without them 2 for the face table; 2 for the marks; 3; 4; 16; 5 to 12. 15, which a refining call may get after them, is in `outcome`;
-- 17 and 18, of the seam test, in `seamtest`. "Places are the lowest number concerned."
use Rattle.std.specs.Prelude.{Bool, cond, not, ◌&&◌, ◌||◌, List, [], ◌∷◌, ℕ, ◌*◌, ◌/◌, ◌%◌, ◌^◌, eqb, ltb, ℤ, pos, nat_abs, length, get_or}
use Rattle.bounds.specs.Bounds.{max_rounds, max_vertices, max_faces, max_refined_faces, max_coordinate}
use Rattle.tables.specs.Tables.{cleared}
use Rattle.search.specs.Search.{first}
use Rattle.topology.specs.Shape.{Shape}
use Rattle.polygons.specs.Polygons.{shape_of, bad_sides}
use Rattle.refusals.specs.Refusals.{bad_mark, bad_corner, isolated, repeated_side, non_manifold, bad_valence, marked_ring}
use Rattle.nets.specs.Net.{ControlNet}
use Rattle.verdict.specs.Call.{Room, needed, Lengths, lengths_of, Call, quadrilaterals, final_faces}

pub data Verdict : Type 0 where
  accepted : Verdict
  refused : (number place : ℕ) → Verdict

-- the first verdict that refuses, of two
abbrev pub or_else : Verdict → Verdict → Verdict
or_else accepted v = v
or_else (refused r p) v = refused r p

-- refusal r with place 0 where a test holds
abbrev pub refused_if : ℕ → Bool → Verdict
refused_if r t = cond t (refused r 0) accepted

-- refusal r at the lowest of n numbers where a test holds; the place is read off that number
abbrev pub refused_at : ℕ → (ℕ → Bool) → ℕ → (ℕ → ℕ) → Verdict
refused_at r t n place = cond (ltb (first t n) n) (refused r (place (first t n))) accepted

-- untouched where the call itself was refused
abbrev pub after_call : Verdict → List ℕ → List ℕ → List ℕ
after_call accepted untouched done = done
after_call (refused r p) untouched done = untouched

-- ---- "The calling program (place 0, all memory untouched)"
-- 2: "face table not [a multiple] of 4", without side counts; with them 14 of paper 02: "a side count outside 3 to 8 or counts that do not add up to the corner table,
-- tested in place of the face part of 2 and before its marks part"
abbrev pub corners_verdict : (sides : List ℕ) (corners : ℕ) → Verdict
corners_verdict [] corners = refused_if 2 (not (eqb (corners % 4) 0))
corners_verdict (c ∷ s) corners = refused_if 14 (bad_sides (c ∷ s) corners)

-- 2 and 14: "vertex table not a multiple of 3, face table not of 4, or marks not V."
unfoldable pub tables_verdict : (coordinates corners : ℕ) (sides : List ℕ) (marks : ℕ) → Verdict
tables_verdict coordinates corners sides marks =
    or_else (refused_if 2 (not (eqb (coordinates % 3) 0)))
    (or_else (corners_verdict sides corners)
    (refused_if 2 (not (eqb marks (coordinates / 3)))))

-- 3: "V above 8,192, F above 4,096, or G above 262,144."
unfoldable pub size_verdict : (v f g : ℕ) → Verdict
size_verdict v f g = or_else (refused_if 3 (ltb max_vertices v)) (or_else (refused_if 3 (ltb max_faces f)) (refused_if 3 (ltb max_refined_faces g)))

-- 4: "an output or the work table shorter than stated". Paper 02 on the letter table, where letters are asked for: "a shorter one counts among the outputs of 4"
abbrev pub shorter : (room stated : Room) → Bool
shorter room stated =
    ltb room.vertices stated.vertices
    || ltb room.faces stated.faces
    || ltb room.marks stated.marks
    || (room.asked && ltb room.letters stated.letters)
    || ltb room.work stated.work

unfoldable pub room_verdict : (g : ℕ) → Room → Verdict
room_verdict g room = refused_if 4 (shorter room (needed g))

-- 1: "rounds above 6."; then 2 and 14, 3 and 4
unfoldable pub limits_verdict : (rounds : ℕ) (sides : List ℕ) → Lengths → Verdict
limits_verdict rounds sides n =
    let f = quadrilaterals sides n.corners in
    let g = f * 4 ^ rounds in
    or_else (refused_if 1 (ltb max_rounds rounds))
    (or_else (tables_verdict n.coordinates n.corners sides n.marks)
    (or_else (size_verdict (n.coordinates / 3) f g)
    (room_verdict g n.room)))

-- 16 of paper 02: "t above 4, place 0, nothing touched, tested after 4"
abbrev pub call_verdict : Call → Verdict
call_verdict c = or_else (limits_verdict c.rounds c.net.sides (lengths_of c.net c.room)) (refused_if 16 (ltb 4 c.tension))

-- ---- "Whoever drew the net"
-- 5: "a coordinate outside -1,048,576 to 1,048,576; vertex."
unfoldable pub bad_coordinate : List ℤ → ℕ → Bool
bad_coordinate vs i = ltb max_coordinate (nat_abs (get_or vs i (pos 0)))

unfoldable pub coordinates_verdict : List ℤ → Verdict
coordinates_verdict vs = refused_at 5 (bad_coordinate vs) (length vs) (λ i. i / 3)

-- Paper 02: "Refusals 5 to 12 are tested on the drawn net", whose faces have the shape S: 10 to 12, then 9 to 12, then 8 to 12, of v vertices
unfoldable pub vertex_verdict : Shape → ℕ → List ℕ → List ℕ → Verdict
vertex_verdict S v l marks =
    or_else (refused_at 10 (non_manifold S l) v (λ p. p))
    (or_else (refused_at 11 (bad_valence S l) v (λ p. p))
    (refused_at 12 (marked_ring S l marks) v (λ p. p)))

unfoldable pub adjacency_verdict : Shape → ℕ → List ℕ → List ℕ → Verdict
adjacency_verdict S v l marks = or_else (refused_at 9 (repeated_side S l) (length l) S.face) (vertex_verdict S v l marks)

unfoldable pub faces_verdict : Shape → ℕ → List ℕ → List ℕ → Verdict
faces_verdict S v l marks = or_else (refused_at 8 (isolated l) v (λ p. p)) (adjacency_verdict S v l marks)

-- 6 to 12
unfoldable pub shape_verdict : Shape → (faces marks : List ℕ) → Verdict
shape_verdict S l marks =
    or_else (refused_at 6 (bad_mark marks) (length marks) (λ p. p))
    (or_else (refused_at 7 (bad_corner S (length marks) l) (length l) S.face)
    (faces_verdict S (length marks) l marks))

unfoldable pub net_verdict : ControlNet → Verdict
net_verdict m = or_else (coordinates_verdict m.vertices) (shape_verdict (shape_of m.sides) m.faces m.marks)

unfoldable pub verdict : Call → Verdict
verdict c = or_else (call_verdict c) (net_verdict c.net)

-- ---- the work table
-- "(place 0, all memory untouched)" on 1 to 4, 14 and 16; "first 16G work numbers zero" on 5 to 12, on 15 and on acceptance; "Work numbers beyond 16G are never touched."
abbrev pub work_after : Call → List ℕ → List ℕ
work_after c w = after_call (call_verdict c) w (cleared (16 * final_faces c) w)
