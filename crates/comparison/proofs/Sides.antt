-- Walks in the nets of two sides of a seam: comparing them finds the place of refusal 18.
use mathlib.Core.Path.{◌≡◌, refl, sym, ap, ◌∙◌}
use mathlib.Core.Bool.{Bool, true, false}
use mathlib.Core.List.{List}
use Prim.Native.Nat.{ℕ, zero, suc, ◌+◌, ◌*◌, ◌≤◌, ◌<◌}
use native.Mathlib.Decide.{dec_lt}
use native.Mathlib.Omega.{arith}
use lib.ListN.{length, get_or}
use Rattle.search.specs.Search.{first, iterate}
use Rattle.search.proofs.Tests.{clash}
use Rattle.search.proofs.First.{first-le, first_holds, first_before, first_is, first_none}
use Rattle.bounds.specs.Bounds.{max_vertices, max_corners, max_half_edges}
use Rattle.topology.specs.HalfEdge.{from}
use Rattle.topology.specs.Boundary.{boundary_from, with_sides, against_sides}
use Rattle.topology.specs.Manifold.{Manifold}
use Rattle.topology.proofs.Boundary.{boundary_from_on, boundary_from_at}
use Rattle.polygons.specs.Polygons.{shape_of}
use Rattle.nets.specs.Net.{marked}
use Rattle.seam.specs.Reading.{vertex_at}
use Rattle.seam.proofs.Vertices.{vertex_at_lem, vertex_lt}
use Rattle.boundarywalk.specs.Walkable.{Walkable, StartsAtMark, way_of, stepped, edges_to}
use Rattle.seamtest.specs.SeamTest.{SeamSide, step_at, edges_from, differs}
use Rattle.comparison.specs.Walks.{Walks, walks, first_at, second_at, apart, first_apart, Comparable}
use Rattle.comparison.proofs.Comparing.{marks_agree, unmarked_before}

-- tests that agree below n find the same
first_cong : (p q : ℕ → Bool) (n : ℕ) → ((i : ℕ) → i < n → p i ≡ q i) → first p n ≡ first q n
first_cong p q n f = go (dec_lt (first p n) n)
  where
    go : Dec (first p n < n) → first p n ≡ first q n
    go (yes a) = sym (first_is q n (first p n) a (sym (f (first p n) a) ∙ first_holds p n a) (λ j b. sym (f j (omega arith)) ∙ first_before p n j b))
    go (no a) =
        let b : first p n ≡ n = omega (arith, first-le p n) in
        b ∙ sym (first_none q n (λ j d t. clash (p j) (f j d ∙ t) (first_before p n j (omega arith))))

-- ---- one side
-- what acceptance says of its net and its start, with h the boundary half-edge that leaves the start
pub record Starts (a : SeamSide) (h : ℕ) : Type 0 where
  pub net : Manifold (shape_of a.net.sides) (length a.net.marks) a.net.faces
  pub threes : length a.net.vertices ≡ 3 * length a.net.marks
  pub few : length a.net.marks ≤ max_vertices
  pub half : h ≡ boundary_from (shape_of a.net.sides) a.net.faces a.start
  pub lt : h < length a.net.faces
  pub mark : marked a.net.marks a.start ≡ true

module _ (a : SeamSide) (h : ℕ) (s : Starts a h) where
  found : boundary_from (shape_of a.net.sides) a.net.faces a.start < length a.net.faces
  found = let e = s.half in let l = s.lt in omega arith

  pub starts_at_mark : StartsAtMark a.net.sides a.net.faces a.net.marks h
  starts_at_mark =
      let e = s.half in
      record {
        corners = s.net.oriented.below;
        boundary = rw e (boundary_from_on (shape_of a.net.sides) a.net.faces a.start found);
        mark = ap (λ (g : ℕ). marked a.net.marks (from a.net.faces g)) e ∙ ap (marked a.net.marks) (boundary_from_at (shape_of a.net.sides) a.net.faces a.start found) ∙ s.mark;
      }

  module _ (against : Bool) where
    pub step_is : (i : ℕ) → from a.net.faces (stepped (shape_of a.net.sides) a.net.faces against h i) ≡ step_at a (way_of against) i
    unfolding step_at
    step_is i =
        ap (λ (g : ℕ). from a.net.faces (stepped (shape_of a.net.sides) a.net.faces against g i)) s.half
        ∙ sym (vertex_at_lem (shape_of a.net.sides) (length a.net.marks) a.net.faces s.net (way_of against) a.start found i)

    step-lt : (i : ℕ) → step_at a (way_of against) i < length a.net.marks
    unfolding step_at
    step-lt i = vertex_lt (shape_of a.net.sides) (length a.net.marks) a.net.faces s.net (way_of against) a.start found i

    pub edges_is : edges_to (shape_of a.net.sides) a.net.faces a.net.marks against h ≡ edges_from a (way_of against)
    unfolding edges_to edges_from
    edges_is =
        ap suc
        (first_cong (λ (k : ℕ). marked a.net.marks (from a.net.faces (stepped (shape_of a.net.sides) a.net.faces against h (suc k))))
        (λ (k : ℕ). marked a.net.marks (step_at a (way_of against) (suc k))) (length a.net.faces) (λ k d. ap (marked a.net.marks) (step_is (suc k))))

-- ---- two sides: the first is walked along from the half-edge h; the vertices that the second meets against its sides stand in w, from the place `at` on
abbrev pub sides_at : (a b : SeamSide) (h : ℕ) → List ℕ → (at : ℕ) → Walks
sides_at a b h w at = walks a.net h b.net b.start w at

module _ (a b : SeamSide) (h : ℕ) (s : Starts a h) (w : List ℕ) (at : ℕ)
    (listed : (i : ℕ) → i < edges_from b against_sides → get_or w (at + i) 0 ≡ step_at b against_sides (suc i))
    (ends : marked b.net.marks (step_at b against_sides (edges_from b against_sides)) ≡ true) where
  abbrev c : Walks
  c = sides_at a b h w at

  abbrev e : ℕ
  e = edges_from b against_sides

  first_is_step : (i : ℕ) → first_at c i ≡ step_at a with_sides i
  unfolding first_at
  first_is_step i = step_is a h s false i

  second_is_step : (i : ℕ) → i ≤ e → second_at c i ≡ step_at b against_sides i
  unfolding second_at step_at vertex_at iterate
  second_is_step zero d = refl
  second_is_step (suc i) d = listed i (omega arith)

  ends_marked : marked b.net.marks (second_at c e) ≡ true
  ends_marked = ap (marked b.net.marks) (second_is_step e (omega arith)) ∙ ends

  -- so the call that compares them may be made
  pub comparable : (g : ℕ) → Starts b g → Walkable a.net.sides a.net.faces w → e ≤ max_corners → at ≤ max_half_edges → at + e ≤ length w → Comparable c e
  unfolding edges_from
  comparable g t walk few near room = record {
    first = walk;
    starts = starts_at_mark a h s;
    some = omega arith;
    few = few;
    near = near;
    room = room;
    pairs = λ i d.
        let x = first_is_step i in
        let y = second_is_step i d in
        let l = step-lt a h s false i in
        let m = step-lt b g t true i in
        let p = s.few in
        let q = t.few in
        let u = s.threes in
        let v = t.threes in
        record { few = omega arith; few' = omega arith; mark = omega arith; mark' = omega arith; point = omega arith; point' = omega arith };
    ends = ends_marked;
  }

  apart_is : (i : ℕ) → i ≤ e → apart c i ≡ differs a b i
  unfolding apart differs
  apart_is i d = let x = first_is_step i in let y = second_is_step i d in rw (x, y)

  -- where the second segment ends before the first, they differ there at the latest
  differs_within : e < edges_from a with_sides → first (differs a b) (suc (edges_from a with_sides)) ≤ e
  unfolding edges_from
  differs_within d = go (dec_lt e (first (differs a b) (suc (edges_from a with_sides))))
    where
      go : Dec (e < first (differs a b) (suc (edges_from a with_sides))) → first (differs a b) (suc (edges_from a with_sides)) ≤ e
      go (no n) = omega arith
      go (yes n) =
          let x = edges_is a h s false in
          let same = apart_is e (omega arith) ∙ first_before (differs a b) (suc (edges_from a with_sides)) e n in
          clash (marked a.net.marks (first_at c e)) (marks_agree c e same ∙ ends_marked) (unmarked_before c e (omega arith) (omega arith))

  -- beyond e the list says nothing, and need not
  pub first-apart_is : first_apart c ≡ first (differs a b) (suc (edges_from a with_sides))
  unfolding first_apart
  first-apart_is = ap (λ (n : ℕ). first (apart c) (suc n)) (edges_is a h s false) ∙ go (dec_lt e (edges_from a with_sides))
    where
      go : Dec (e < edges_from a with_sides) → first (apart c) (suc (edges_from a with_sides)) ≡ first (differs a b) (suc (edges_from a with_sides))
      go (no n) = first_cong (apart c) (differs a b) (suc (edges_from a with_sides)) (λ i d. apart_is i (omega arith))
      go (yes n) =
          let m : ℕ = suc (edges_from a with_sides) in
          let x = differs_within n in
          first_is (apart c) m (first (differs a b) m) (omega arith) (apart_is (first (differs a b) m) x ∙ first_holds (differs a b) m (omega arith))
          (λ j d. apart_is j (omega arith) ∙ first_before (differs a b) m j d)
