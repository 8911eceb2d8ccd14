-- The loops of the boundary of a manifold net, walked with the sides or against them.
use mathlib.Core.Path.{◌≡◌, refl, sym, ap, ◌∙◌}
use mathlib.Core.Bool.{Bool, true}
use mathlib.Core.List.{List}
use Prim.Native.Nat.{ℕ, zero, suc, ◌+◌, ◌≤◌, ◌<◌}
use native.Mathlib.Omega.{arith}
use lib.ListN.{length}
use lib.Dec.{eqb}
use borrow.Author.Tests.{eq-eqb}
use Rattle.search.specs.Search.{first, iterate}
use Rattle.search.proofs.Iterate.{iterate-add, iterate_meets}
use Rattle.topology.specs.Shape.{Shape}
use Rattle.topology.specs.HalfEdge.{from}
use Rattle.topology.specs.Boundary.{OnBoundary, along, back, Way, with_sides, against_sides, other, boundary_step, passed}
use Rattle.topology.specs.Manifold.{Manifold}
use Rattle.topology.proofs.Mates.{mate_only, ends_differ}
use Rattle.topology.proofs.Boundary.{along_on, along-from, back_on, back-along, along-back}

module _ (S : Shape) (v : ℕ) (l : List ℕ) (ok : Manifold S v l) where
  step_on : (w : Way) (h : ℕ) → OnBoundary S l h → OnBoundary S l (boundary_step S l w h)
  unfolding boundary_step
  step_on with_sides h o = along_on S v l ok h o
  step_on against_sides h o = back_on S v l ok h o

  pub passed_on : (w : Way) (h : ℕ) → OnBoundary S l h → OnBoundary S l (passed S l w h)
  unfolding passed
  passed_on with_sides h o = o
  passed_on against_sides h o = back_on S v l ok h o

  -- the other way undoes it
  pub step_undone : (w : Way) (h : ℕ) → OnBoundary S l h → boundary_step S l (other w) (boundary_step S l w h) ≡ h
  unfolding boundary_step other
  step_undone with_sides h o = back-along S v l ok h o
  step_undone against_sides h o = along-back S v l ok h o

  step_inj : (w : Way) (x y : ℕ) → OnBoundary S l x → OnBoundary S l y → boundary_step S l w x ≡ boundary_step S l w y → x ≡ y
  step_inj w x y a b e = sym (step_undone w x a) ∙ ap (boundary_step S l (other w)) e ∙ step_undone w y b

  pub steps_on : (w : Way) (k h : ℕ) → OnBoundary S l h → OnBoundary S l (iterate (boundary_step S l w) k h)
  unfolding iterate
  steps_on w zero h o = o
  steps_on w (suc k) h o = step_on w (iterate (boundary_step S l w) k h) (steps_on w k h o)

  -- from where a test holds one comes to the next place where it holds
  pub steps_meet : (w : Way) (h : ℕ) → OnBoundary S l h → (stop : ℕ → Bool) → stop h ≡ true → first (λ (k : ℕ). stop (iterate (boundary_step S l w) (suc k) h)) (length l) < length l
  steps_meet w h o stop t = iterate_meets (boundary_step S l w) (OnBoundary S l) (λ x y a b c e. step_inj w x y a b e) (length l) h (λ x q. q.lt) (λ j. steps_on w j h o) stop t

  -- the loop closes within as many steps as there are half-edges
  pub loop_closes : (w : Way) (h : ℕ) → OnBoundary S l h → first (λ (k : ℕ). eqb (iterate (boundary_step S l w) (suc k) h) h) (length l) < length l
  loop_closes w h o = steps_meet w h o (λ (g : ℕ). eqb g h) (eq-eqb h h refl)

  -- ---- it has three half-edges or more: two, there and back, would be mates

  along_not : (h : ℕ) → OnBoundary S l h → along S l h ≡ h → ⊥
  along_not h o e = ends_differ S v l ok.oriented h o.lt (ap (from l) (sym e) ∙ along-from S v l ok h o)

  along-along_not : (h : ℕ) → OnBoundary S l h → along S l (along S l h) ≡ h → ⊥
  along-along_not h o e =
      let q = along_on S v l ok h o in
      let m = mate_only S v l ok.oriented h (along S l h) (record { lt = q.lt; start = along-from S v l ok h o; end = sym (along-from S v l ok (along S l h) q) ∙ ap (from l) e }) in
      let x = q.lt in let y = o.none in omega arith

  step_not : (w : Way) (h : ℕ) → OnBoundary S l h → boundary_step S l w h ≡ h → ⊥
  unfolding boundary_step
  step_not with_sides h o e = along_not h o e
  step_not against_sides h o e = along_not h o (ap (along S l) (sym e) ∙ along-back S v l ok h o)

  step-step_not : (w : Way) (h : ℕ) → OnBoundary S l h → boundary_step S l w (boundary_step S l w h) ≡ h → ⊥
  unfolding boundary_step
  step-step_not with_sides h o e = along-along_not h o e
  step-step_not against_sides h o e =
      let b = back_on S v l ok h o in
      along-along_not h o (ap (λ (x : ℕ). along S l (along S l x)) (sym e) ∙ ap (along S l) (along-back S v l ok (back S l h) b) ∙ along-back S v l ok h o)

  pub loop_three : (w : Way) (n h : ℕ) → OnBoundary S l h → 0 < n → iterate (boundary_step S l w) n h ≡ h → 3 ≤ n
  unfolding iterate
  loop_three w zero h o b e = omega arith
  loop_three w (suc zero) h o b e = absurd (step_not w h o e)
  loop_three w (suc (suc zero)) h o b e = absurd (step-step_not w h o e)
  loop_three w (suc (suc (suc n))) h o b e = omega arith

  -- ---- k steps and k steps the other way

  pub steps_undone : (w : Way) (k h : ℕ) → OnBoundary S l h → iterate (boundary_step S l (other w)) k (iterate (boundary_step S l w) k h) ≡ h
  unfolding iterate
  steps_undone w zero h o = refl
  steps_undone w (suc k) h o =
      let x : suc k ≡ k + 1 = omega arith in
      let g : ℕ = iterate (boundary_step S l w) k h in
      ap (λ (j : ℕ). iterate (boundary_step S l (other w)) j (boundary_step S l w g)) x
      ∙ iterate-add (boundary_step S l (other w)) k 1 (boundary_step S l w g)
      ∙ ap (iterate (boundary_step S l (other w)) k) (step_undone w g (steps_on w k h o))
      ∙ steps_undone w k h o
