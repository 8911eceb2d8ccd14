-- The seam test of paper 02: "Given two nets, a marked vertex on each and a work table, the part first checks each net as a call of zero rounds would." The first refusal
-- that holds is given, in this order: those of the first net; those of the second; 17 for the first start; 17 for the second; 18.
use Rattle.std.specs.Prelude.{Bool, true, false, cond, not, ◌&&◌, ◌||◌, List, ℕ, suc, ℤ, nat_abs, ◌-ℤ◌, length, eqb, ltb}
use Rattle.search.specs.Search.{first}
use Rattle.topology.specs.Boundary.{Way, with_sides, against_sides}
use Rattle.polygons.specs.Polygons.{shape_of}
use Rattle.nets.specs.Net.{ControlNet, axis, marked}
use Rattle.verdict.specs.Call.{Call, alone}
use Rattle.verdict.specs.Verdict.{Verdict, accepted, refused, or_else, refused_if, refused_at, verdict, work_after}
use Rattle.seam.specs.Reading.{vertex_at}

-- one side of the seam: a net, its tension, and the vertex from which its boundary segment (paper 02's stretch) is read
pub record SeamSide : Type 0 where
  pub net : ControlNet
  pub tension : ℕ
  pub start : ℕ

abbrev pub seam_side : ControlNet → (tension start : ℕ) → SeamSide
seam_side net tension start = record { net = net; tension = tension; start = start }

-- "checks each net as a call of zero rounds would", with a work table of w numbers
abbrev pub alone_in : SeamSide → (w : ℕ) → Call
alone_in a w = alone a.net a.tension w

-- "Then it walks the first net's stretch from its vertex along its boundary, and the second's against": the vertex at step i
unfoldable pub step_at : SeamSide → Way → ℕ → ℕ
step_at a way i = vertex_at (shape_of a.net.sides) a.net.faces way a.start i

-- "the number of edges of the stretch as drawn, before any split": one more than the steps before the first mark after the start
unfoldable pub edges_from : SeamSide → Way → ℕ
edges_from a way = suc (first (λ (i : ℕ). marked a.net.marks (step_at a way (suc i))) (length a.net.faces))

-- 17: "a start that is no marked vertex"
unfoldable pub bad_start : SeamSide → Bool
bad_start a = not (ltb a.start (length a.net.marks) && marked a.net.marks a.start)

-- whether two truth values are equal
abbrev pub same : Bool → Bool → Bool
same true c = c
same false c = not c

-- "both nets or neither have side counts"
abbrev pub has_sides : SeamSide → Bool
has_sides a = ltb 0 (length a.net.sides)

-- 18 with place 0: "the tensions differ or only one net has side counts"
unfoldable pub unlike : SeamSide → SeamSide → Bool
unlike a b = not (eqb a.tension b.tension) || not (same (has_sides a) (has_sides b))

-- whether vertex u of the vertex table p and vertex v of the vertex table q agree on axis x
unfoldable pub same_axis : (p : List ℤ) (u : ℕ) (q : List ℤ) (v x : ℕ) → Bool
same_axis p u q v x = eqb (nat_abs (axis p x u -ℤ axis q x v)) 0

-- "points and marks agree": of vertex u, in the tables p of vertices and m of marks, and vertex v, in q and n
unfoldable pub same_vertex : (p : List ℤ) (m : List ℕ) (u : ℕ) (q : List ℤ) (n : List ℕ) (v : ℕ) → Bool
same_vertex p m u q n v = same_axis p u q v 0 && (same_axis p u q v 1 && (same_axis p u q v 2 && same (marked m u) (marked n v)))

-- step i of the two segments differs
unfoldable pub differs : SeamSide → SeamSide → ℕ → Bool
differs a b i = not (same_vertex a.net.vertices a.net.marks (step_at a with_sides i) b.net.vertices b.net.marks (step_at b against_sides i))

-- refusal r with place p where a test holds
abbrev pub refused_if_at : (r p : ℕ) → Bool → Verdict
refused_if_at r p t = cond t (refused r p) accepted

-- "A net refused there ends the call with that refusal, the first net before the second." 17: "place 1 or 2 for the net"; 18: "0 if the tensions differ or only one net has side counts,
-- else the first differing step, from 0"; "17 goes first." The steps are those of the first segment, "ends included": where one segment ends before the other, the marks differ there
unfoldable pub seam_verdict : SeamSide → SeamSide → (w : ℕ) → Verdict
seam_verdict a b w =
    or_else (verdict (alone_in a w))
    (or_else (verdict (alone_in b w))
    (or_else (refused_if_at 17 1 (bad_start a))
    (or_else (refused_if_at 17 2 (bad_start b))
    (or_else (refused_if 18 (unlike a b))
    (refused_at 18 (differs a b) (suc (edges_from a with_sides)) (λ i. i))))))

-- "It reports the number of edges of the stretch as drawn, before any split, and 0 on any refusal."
abbrev pub edges_by : Verdict → ℕ → ℕ
edges_by accepted e = e
edges_by (refused r p) e = 0

unfoldable pub seam_edges : SeamSide → SeamSide → (w : ℕ) → ℕ
seam_edges a b w = edges_by (seam_verdict a b w) (edges_from a with_sides)

-- "the work table is left as the checks made leave it": the second check is made where the first net was accepted
abbrev pub work_by : Verdict → (once twice : List ℕ) → List ℕ
work_by accepted once twice = twice
work_by (refused r p) once twice = once

unfoldable pub seam_work : SeamSide → SeamSide → List ℕ → List ℕ
seam_work a b w =
    let once : List ℕ = work_after (alone_in a (length w)) w in
    work_by (verdict (alone_in a (length w))) once (work_after (alone_in b (length w)) once)

-- all that the test gives and leaves behind
pub record SeamTested : Type 0 where
  pub verdict : Verdict
  pub edges : ℕ
  pub work : List ℕ

abbrev pub seam_tested_as : Verdict → (edges : ℕ) → List ℕ → SeamTested
seam_tested_as v e w = record { verdict = v; edges = e; work = w }

-- the test of two sides with the work table w
unfoldable pub seam_tested : SeamSide → SeamSide → List ℕ → SeamTested
seam_tested a b w = seam_tested_as (seam_verdict a b (length w)) (seam_edges a b (length w)) (seam_work a b w)
