-- Comparing step by step, stopped at a difference or at a mark, gives the first step that differs, or one more than the edges.
use mathlib.Core.Path.{◌≡◌, refl, sym, ap, ◌∙◌}
use mathlib.Core.Bool.{Bool, true, false, not, ◌&&◌}
use mathlib.Core.List.{List}
use Prim.Native.Nat.{ℕ, zero, suc, ◌+◌, ◌-◌, ◌≤◌, ◌<◌}
use native.Mathlib.Decide.{dec_lt}
use native.Mathlib.Numerals.{add-one}
use native.Mathlib.Omega.{arith}
use lib.IntN.{ℤ}
use lib.ListN.{length, get_or}
use borrow.Author.Tests.{not-false}
use Rattle.search.specs.Search.{first, iterate}
use Rattle.search.proofs.Tests.{clash, and_right}
use Rattle.search.proofs.First.{first_holds, first_before, first_reach, Passed, passed_start, passed_next, passed_hit, passed_end}
use Rattle.topology.specs.HalfEdge.{from}
use Rattle.topology.specs.Boundary.{OnBoundary, along, with_sides, boundary_step}
use Rattle.topology.proofs.Loops.{steps_on, steps_meet}
use Rattle.polygons.specs.Polygons.{shape_of}
use Rattle.nets.specs.Net.{marked}
use Rattle.boundarywalk.specs.Walkable.{stepped, edges_to}
use Rattle.seamtest.specs.SeamTest.{same, same_axis, same_vertex}
use Rattle.seamtest.proofs.Agree.{same_is}
use Rattle.comparison.specs.Walks.{Pair, Walks, first_at, second_at, apart, first_apart, Comparable}

-- ---- vertices that are the same have the same mark
same_marks : (p : List ℤ) (m : List ℕ) (u : ℕ) (q : List ℤ) (n : List ℕ) (v : ℕ) → same_vertex p m u q n v ≡ true → marked m u ≡ marked n v
unfolding same_vertex
same_marks p m u q n v t =
    let x : ℕ → Bool = same_axis p u q v in
    let s : Bool = same (marked m u) (marked n v) in
    same_is (marked m u) (marked n v) (and_right (x 2) s (and_right (x 1) (x 2 && s) (and_right (x 0) (x 1 && (x 2 && s)) t)))

pub marks_agree : (c : Walks) (i : ℕ) → apart c i ≡ false → marked c.marks (first_at c i) ≡ marked c.marks' (second_at c i)
unfolding apart
marks_agree c i e =
    same_marks c.vertices c.marks (first_at c i) c.vertices' c.marks' (second_at c i)
    (not-false (same_vertex c.vertices c.marks (first_at c i) c.vertices' c.marks' (second_at c i)) e)

-- ---- the first walk
-- whether the vertex after j + 1 steps is marked
unfoldable pub mark_after : Walks → ℕ → Bool
mark_after c j = marked c.marks (first_at c (suc j))

abbrev pub edges_of : Walks → ℕ
edges_of c = edges_to (shape_of c.sides) c.faces c.marks false c.half

edges_are : (c : Walks) → edges_of c ≡ suc (first (mark_after c) (length c.faces))
unfolding edges_to mark_after first_at
edges_are c = refl

pub unmarked_before : (c : Walks) (i : ℕ) → 0 < i → i < edges_of c → marked c.marks (first_at c i) ≡ false
unfolding mark_after
unmarked_before c zero a b = absurd (omega arith)
unmarked_before c (suc i) a b = let x = edges_are c in first_before (mark_after c) (length c.faces) i (omega arith)

-- k steps are made and lead to g, none of them differs, and no mark is met after the start
pub record Comparing (c : Walks) (e g k : ℕ) : Type 0 where
  pub le : k ≤ e
  pub here : g ≡ stepped (shape_of c.sides) c.faces false c.half k
  pub same : Passed (apart c) (k + 1)
  pub unmarked : Passed (mark_after c) k

module _ (c : Walks) (e : ℕ) (r : Comparable c e) where
  on : (k : ℕ) → OnBoundary (shape_of c.sides) c.faces (stepped (shape_of c.sides) c.faces false c.half k)
  on k = steps_on (shape_of c.sides) r.first.vertices c.faces r.first.net with_sides k c.half r.starts.boundary

  meets : first (mark_after c) (length c.faces) < length c.faces
  unfolding mark_after first_at
  meets =
      steps_meet (shape_of c.sides) r.first.vertices c.faces r.first.net with_sides c.half r.starts.boundary
      (λ (g : ℕ). marked c.marks (from c.faces g)) r.starts.mark

  -- ---- step 0
  pub start_pair : Pair c.vertices c.marks (from c.faces c.half) c.vertices' c.marks' c.start'
  unfolding first_at second_at iterate
  start_pair = r.pairs 0 (omega arith)

  module _ (s : Bool) (q : s ≡ same_vertex c.vertices c.marks (from c.faces c.half) c.vertices' c.marks' c.start') where
    start_is : apart c 0 ≡ not s
    unfolding apart first_at second_at iterate
    start_is = ap not (sym q)

    pub start-apart : s ≡ false → 0 ≡ first_apart c
    unfolding first_apart
    start-apart f = passed_hit (apart c) (suc (edges_of c)) 0 (passed_start (apart c)) (omega arith) (start_is ∙ ap not f)

    pub comparing_start : s ≡ true → Comparing c e c.half 0
    unfolding iterate
    comparing_start t = record {
      le = omega arith;
      here = refl;
      same = passed_next (apart c) 0 (passed_start (apart c)) (start_is ∙ ap not t);
      unmarked = passed_start (mark_after c);
    }

  -- ---- step k + 1
  module _ (g k : ℕ) (u : Comparing c e g k) where
    pub comparing_lt : g < length c.faces
    comparing_lt = rw u.here (on k).lt

    -- the first walk ends no later than the second
    pub comparing_ends : e ≤ k → ⊥
    unfolding mark_after
    comparing_ends b =
        let j : k ≡ suc (k - 1) = omega (arith, r.some) in
        let z : k ≡ e = omega (arith, u.le) in
        let x = marks_agree c k (u.same.none k (omega arith)) ∙ ap (λ (i : ℕ). marked c.marks' (second_at c i)) z ∙ r.ends in
        clash (marked c.marks (first_at c k)) x (ap (λ (i : ℕ). marked c.marks (first_at c i)) j ∙ u.unmarked.none (k - 1) (omega arith))

    -- nor has it ended before
    not_before : k ≤ first (mark_after c) (length c.faces)
    not_before = go (dec_lt (first (mark_after c) (length c.faces)) k)
      where
        go : Dec (first (mark_after c) (length c.faces) < k) → k ≤ first (mark_after c) (length c.faces)
        go (no n) = omega arith
        go (yes n) =
            let j : ℕ = first (mark_after c) (length c.faces) in
            clash (mark_after c j) (first_holds (mark_after c) (length c.faces) meets) (u.unmarked.none j n)

    module _ (b : k < e) (g' : ℕ) (q : g' ≡ along (shape_of c.sides) c.faces g) where
      arrived : g' ≡ stepped (shape_of c.sides) c.faces false c.half (suc k)
      unfolding iterate boundary_step
      arrived = q ∙ ap (along (shape_of c.sides) c.faces) u.here

      pub next_lt : g' < length c.faces
      next_lt = rw arrived (on (suc k)).lt

      vertex_is_lem : first_at c (suc k) ≡ from c.faces g'
      unfolding first_at
      vertex_is_lem = ap (from c.faces) (sym arrived)

      mark_is : mark_after c k ≡ marked c.marks (from c.faces g')
      unfolding mark_after
      mark_is = ap (marked c.marks) vertex_is_lem

      pub next_pair : Pair c.vertices c.marks (from c.faces g') c.vertices' c.marks' (get_or c.work (c.at + k) 0)
      unfolding second_at
      next_pair = let x = vertex_is_lem in rw x at (r.pairs (suc k) b)

      module _ (s : Bool) (p : s ≡ same_vertex c.vertices c.marks (from c.faces g') c.vertices' c.marks' (get_or c.work (c.at + k) 0)) where
        next_is : apart c (k + 1) ≡ not s
        unfolding apart second_at
        next_is = ap (apart c) (add-one k) ∙ (let x = vertex_is_lem in rw x (ap not (sym p)))

        pub next_apart : s ≡ false → k + 1 ≡ first_apart c
        unfolding first_apart
        next_apart f =
            let x = not_before in
            let y = edges_are c in
            passed_hit (apart c) (suc (edges_of c)) (k + 1) u.same (omega arith) (next_is ∙ ap not f)

        passed_both : s ≡ true → Passed (apart c) (k + 1 + 1)
        passed_both t = passed_next (apart c) (k + 1) u.same (next_is ∙ ap not t)

        pub next_end : s ≡ true → marked c.marks (from c.faces g') ≡ true → k + 1 + 1 ≡ first_apart c
        unfolding first_apart
        next_end t m =
            let x = not_before in
            let y = first_reach (mark_after c) (length c.faces) k (omega (arith, meets)) (mark_is ∙ m) in
            let z = edges_are c in
            passed_end (apart c) (suc (edges_of c)) (k + 1 + 1) (passed_both t) (omega arith) (omega arith)

        pub comparing_next : s ≡ true → marked c.marks (from c.faces g') ≡ false → Comparing c e g' (k + 1)
        comparing_next t m = record {
          le = omega arith;
          here = arrived ∙ ap (stepped (shape_of c.sides) c.faces false c.half) (sym (add-one k));
          same = passed_both t;
          unmarked = passed_next (mark_after c) k u.unmarked (mark_is ∙ m);
        }
