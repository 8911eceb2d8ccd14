-- One side of the seam test whose net is accepted and whose start is a marked vertex: its boundary segment, up to the next mark. Assumes nothing.
use mathlib.Core.Path.{◌≡◌, refl, ap, ◌∙◌}
use mathlib.Core.Bool.{Bool, true, false, ◌&&◌}
use mathlib.Core.List.{List}
use Prim.Native.Nat.{ℕ, zero, suc, ◌≤◌, ◌<◌}
use native.Mathlib.Omega.{arith}
use lib.ListN.{length, get_or}
use lib.Dec.{ltb}
use borrow.Author.Tests.{eqb-true, lt-ltb, ltb-true, not-false}
use Rattle.lists.proofs.Tabulate.{length-tabulate, get_or-tabulate}
use Rattle.search.specs.Search.{first, iterate}
use Rattle.search.proofs.Tests.{and_on, and_left, and_right, not_off}
use Rattle.search.proofs.First.{first_holds, first_before, first_reach}
use Rattle.curve.specs.Curve.{Open, Point}
use Rattle.topology.specs.HalfEdge.{from}
use Rattle.topology.specs.Boundary.{boundary_from, Way, boundary_step}
use Rattle.topology.specs.Manifold.{Manifold}
use Rattle.topology.proofs.Boundary.{boundary_from_on, boundary_from_at}
use Rattle.topology.proofs.Loops.{steps_meet}
use Rattle.polygons.specs.Polygons.{shape_of}
use Rattle.refusals.proofs.Places.{marked_boundary}
use Rattle.nets.specs.Net.{control_tables, point_of, marked}
use Rattle.verdict.specs.Verdict.{accepted, verdict}
use Rattle.verdict.proofs.Accepted.{accepted_net, accepted_manifold}
use Rattle.seam.specs.Reading.{vertex_at, points}
use Rattle.seam.specs.Split.{ReadsControl}
use Rattle.seam.proofs.Vertices.{vertex_at_lem, vertex_lt}
use Rattle.seam.proofs.Readings.{reads_only}
use Rattle.seamtest.specs.SeamTest.{SeamSide, alone_in, step_at, edges_from, bad_start}
use Rattle.seamtest.proofs.Examples

-- ---- 17 does not hold: the start is a marked vertex
pub record GoodStart (a : SeamSide) : Type 0 where
  pub vertex : a.start < length a.net.marks
  pub mark : marked a.net.marks a.start ≡ true

pub start_if : (a : SeamSide) → bad_start a ≡ false → GoodStart a
unfolding bad_start
start_if a f =
    let t = not-false (ltb a.start (length a.net.marks) && marked a.net.marks a.start) f in
    record { vertex = ltb-true a.start (length a.net.marks) (and_left _ _ t); mark = and_right (ltb a.start (length a.net.marks)) _ t }

pub if_start : (a : SeamSide) → GoodStart a → bad_start a ≡ false
unfolding bad_start
if_start a g = not_off _ (and_on _ _ (lt-ltb a.start (length a.net.marks) g.vertex) g.mark)

-- ---- its segment
pub edges_some : (a : SeamSide) (way : Way) → 0 < edges_from a way
unfolding edges_from
edges_some a way = omega arith

module _ (a : SeamSide) (w : ℕ) (ok : verdict (alone_in a w) ≡ accepted) where
  abbrev manifold : Manifold (shape_of a.net.sides) (length a.net.marks) a.net.faces
  manifold = accepted_manifold (alone_in a w) ok

  -- by 12 a marked vertex is on the boundary
  pub on_boundary : GoodStart a → boundary_from (shape_of a.net.sides) a.net.faces a.start < length a.net.faces
  unfolding marked
  on_boundary g =
      marked_boundary (shape_of a.net.sides) a.net.faces a.net.marks (length a.net.marks) (accepted_net (alone_in a w) ok).no12 a.start g.vertex
      (eqb-true (get_or a.net.marks a.start 0) 1 g.mark)

  -- a start from which a segment can be read is a marked vertex
  pub start_read : (way : Way) (L : List Point) → ReadsControl a.net way Open a.start L → GoodStart a
  unfolding vertex_at iterate
  start_read way L r = record { vertex = vertex_lt (shape_of a.net.sides) (length a.net.marks) a.net.faces manifold way a.start r.boundary 0; mark = r.starts }

  module _ (g : GoodStart a) (way : Way) where
    -- whether the vertex i + 1 steps on is marked
    abbrev stop : ℕ → Bool
    stop i = marked a.net.marks (step_at a way (suc i))

    -- the next mark is met within as many steps as there are corners
    pub meets : first stop (length a.net.faces) < length a.net.faces
    unfolding step_at
    meets =
        let S = shape_of a.net.sides in
        let l : List ℕ = a.net.faces in
        let m : List ℕ = a.net.marks in
        let b = on_boundary g in
        let h : ℕ = boundary_from S l a.start in
        let q : ℕ → Bool = λ i. marked m (from l (iterate (boundary_step S l way) (suc i) h)) in
        let c = steps_meet S (length m) l manifold way h (boundary_from_on S l a.start b) (λ (x : ℕ). marked m (from l x)) (ap (marked m) (boundary_from_at S l a.start b) ∙ g.mark) in
        let i : ℕ = first q (length l) in
        omega (arith, first_reach stop (length l) i c (ap (marked m) (vertex_at_lem S (length m) l manifold way a.start b (suc i)) ∙ first_holds q (length l) c))

    pub edges_le : edges_from a way ≤ length a.net.faces
    unfolding edges_from
    edges_le = omega (arith, meets)

    pub ends_there : marked a.net.marks (step_at a way (edges_from a way)) ≡ true
    unfolding edges_from
    ends_there = first_holds stop (length a.net.faces) meets

    pub unmarked_before : (i : ℕ) → 0 < i → i < edges_from a way → marked a.net.marks (step_at a way i) ≡ false
    unfolding edges_from
    unmarked_before zero b c = absurd (omega arith)
    unmarked_before (suc i) b c = first_before stop (length a.net.faces) i (omega arith)

    -- so it is read as an open segment, and as no other
    pub segment : ReadsControl a.net way Open a.start (points (shape_of a.net.sides) (control_tables a.net) way a.start (suc (edges_from a way)))
    unfolding step_at
    segment = record {
      boundary = on_boundary g;
      starts = g.mark;
      edges = edges_from a way;
      some = edges_some a way;
      between = unmarked_before;
      ends = ends_there;
      list = refl;
    }

    module _ (L : List Point) (r : ReadsControl a.net way Open a.start L) where
      read_list : L ≡ points (shape_of a.net.sides) (control_tables a.net) way a.start (suc (edges_from a way))
      read_list = (reads_only (shape_of a.net.sides) (control_tables a.net) way Open a.start _ segment L).0 r

      pub read_length : length L ≡ suc (edges_from a way)
      unfolding points
      read_length = ap length read_list ∙ length-tabulate (suc (edges_from a way)) _

      pub read_point : (i : ℕ) (d : Point) → i ≤ edges_from a way → get_or L i d ≡ point_of (control_tables a.net) (step_at a way i)
      unfolding points step_at
      read_point i d b = ap (λ (l : List Point). get_or l i d) read_list ∙ get_or-tabulate (suc (edges_from a way)) _ i d (omega arith)
