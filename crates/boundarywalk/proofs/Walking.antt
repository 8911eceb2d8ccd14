-- A walk along the boundary to the next mark, with its vertices written down. Assumes nothing.
use mathlib.Core.Path.{◌≡◌, refl, sym, ap, ◌∙◌}
use mathlib.Core.Bool.{Bool, true, false}
use mathlib.Core.List.{List}
use Prim.Native.Nat.{ℕ, suc, ◌+◌, ◌-◌, ◌≤◌, ◌<◌}
use native.Mathlib.Decide.{dec_lt}
use native.Mathlib.Omega.{arith}
use lib.ListN.{length, set, length-set}
use Rattle.search.specs.Search.{first, iterate}
use Rattle.search.proofs.Tests.{clash}
use Rattle.search.proofs.First.{first_holds, first_is}
use Rattle.topology.specs.HalfEdge.{from}
use Rattle.topology.specs.Boundary.{OnBoundary, boundary_step}
use Rattle.topology.proofs.Loops.{steps_on, steps_meet}
use Rattle.polygons.specs.Polygons.{shape_of}
use Rattle.nets.specs.Net.{marked}
use Rattle.tables.specs.Tables.{Written}
use Rattle.tables.proofs.Written.{written_none, written_on, written_one}
use Rattle.boundarywalk.specs.Walkable.{Walkable, way_of, stepped, edges_to, ListRoom, StartsAtMark}

-- a table w₀ before the walk
module _ (s l marks w₀ : List ℕ) (h : ℕ) (against : Bool) (at : ℕ) where
  -- where the walk is after k steps
  abbrev place : ℕ → ℕ
  place k = stepped (shape_of s) l against h k

  abbrev mark_at : ℕ → Bool
  mark_at k = marked marks (from l (place k))

  -- the vertex that is written at the place j
  abbrev vertex_for : ℕ → ℕ
  vertex_for j = from l (place (suc (j - at)))

  -- after k steps, at g with the table w, no mark met
  pub record Walking (w : List ℕ) (g k : ℕ) : Type 0 where
    pub le : k ≤ length l
    pub here : g ≡ place k
    pub passed : (j : ℕ) → j < k → mark_at (suc j) ≡ false
    pub kept : length w ≡ length w₀
    pub written : Written at (at + k) vertex_for w₀ w

  -- one step on, with the table w: the walk ends at a mark
  pub record Arrived (w : List ℕ) (g k : ℕ) : Type 0 where
    pub lt : g < length l
    pub kept : length w ≡ length w₀
    pub written : Written at (at + k) vertex_for w₀ w
    pub hit : marked marks (from l g) ≡ true → k ≡ edges_to (shape_of s) l marks against h
    pub on : marked marks (from l g) ≡ false → Walking w g k

  module _ (o : Walkable s l w₀ × (StartsAtMark s l marks h × ListRoom s l w₀ at)) where
    place_on_lem : (k : ℕ) → OnBoundary (shape_of s) l (place k)
    place_on_lem k = steps_on (shape_of s) o.0.vertices l o.0.net (way_of against) k h o.1.0.boundary

    pub walking_start : Walking w₀ h 0
    unfolding iterate
    walking_start = record {
      le = omega arith;
      here = refl;
      passed = λ j b. absurd (omega arith);
      kept = refl;
      written = let e : at + 0 ≡ at = omega arith in rw e (written_none at vertex_for w₀);
    }

    module _ (w : List ℕ) (g k : ℕ) (u : Walking w g k) where
      pub walking_lt : g < length l
      walking_lt = rw u.here (place_on_lem k).lt

      next_place : (g' : ℕ) → g' ≡ boundary_step (shape_of s) l (way_of against) g → g' ≡ place (suc k)
      unfolding iterate
      next_place g' e = e ∙ ap (boundary_step (shape_of s) l (way_of against)) u.here

      pub walking_step : k < length l → (g' : ℕ) → g' ≡ boundary_step (shape_of s) l (way_of against) g → Arrived (set w (at + k) (from l g')) g' (k + 1)
      unfolding edges_to
      walking_step b g' e = record {
        lt = rw here (place_on_lem (suc k)).lt;
        kept = kept;
        written = written;
        hit = λ t. let n : k + 1 ≡ suc k = omega arith in n ∙ ap suc (sym (first_is (λ (j : ℕ). mark_at (suc j)) (length l) k b (mark ∙ t) u.passed));
        on = λ t. record { le = omega arith; here = let n : suc k ≡ k + 1 = omega arith in rw n at here; passed = λ j c. passed t j c (dec_lt j k); kept = kept; written = written };
      }
        where
          here : g' ≡ place (suc k)
          here = next_place g' e

          mark : mark_at (suc k) ≡ marked marks (from l g')
          mark = ap (λ (i : ℕ). marked marks (from l i)) (sym here)

          kept : length (set w (at + k) (from l g')) ≡ length w₀
          kept = length-set w (at + k) (from l g') ∙ u.kept

          written : Written at (at + (k + 1)) vertex_for w₀ (set w (at + k) (from l g'))
          written =
              let c : at + k < length w = omega (arith, u.kept, o.1.1.room) in
              let d : at + k - at ≡ k = omega arith in
              let y : from l g' ≡ vertex_for (at + k) = ap (from l) here ∙ ap (λ (i : ℕ). from l (place (suc i))) (sym d) in
              let z : at + k + 1 ≡ at + (k + 1) = omega arith in
              rw z at (written_on at (at + k) (at + k + 1) vertex_for w₀ w (set w (at + k) (from l g')) (omega arith) (omega arith) u.written (written_one (at + k) vertex_for w (from l g') c y))

          passed : marked marks (from l g') ≡ false → (j : ℕ) → j < k + 1 → Dec (j < k) → mark_at (suc j) ≡ false
          passed t j d (yes c) = u.passed j c
          passed t j d (no c) = let z : j ≡ k = omega arith in ap (λ (i : ℕ). mark_at (suc i)) z ∙ mark ∙ t

      -- no walk is longer than there are half-edges
      pub walking_end : length l ≤ k → ⊥
      walking_end b =
          let q : ℕ → Bool = λ j. mark_at (suc j) in
          let c = steps_meet (shape_of s) o.0.vertices l o.0.net (way_of against) h o.1.0.boundary (λ (i : ℕ). marked marks (from l i)) o.1.0.mark in
          clash (q (first q (length l))) (first_holds q (length l) c) (u.passed (first q (length l)) (omega arith))
