-- Sums round a ring of n places, and one place out of a ring. Assumes nothing.
use mathlib.Core.Path.{◌≡◌, refl, sym, ap, ap₂, ◌∙◌}
use mathlib.Core.Bool.{Bool, cond}
use mathlib.Core.List.{[], ◌∷◌}
use Prim.Native.Nat.{ℕ, zero, suc, ◌+◌, ◌≤◌, ◌<◌}
use native.Mathlib.Nat.{zero-add, add_assoc, add-mod_right}
use native.Mathlib.Decide.{ℕ_discrete}
use native.Mathlib.Omega.{arith}
use borrow.Author.Tests.{eq-eqb, ne_eqb}
use lib.IntN.{ℤ, pos, ◌+ℤ◌, ◌-ℤ◌, ◌*ℤ◌, +ℤ_idr, zero-*ℤ}
use Rattle.integers.specs.Sum.{sum}
use Rattle.integers.proofs.Polynomial.{var, lit, ◌⊞◌, ◌⊟◌, ◌⊠◌, same}
use Rattle.integers.proofs.Sum.{sum_cong}
use Rattle.rings.specs.Ring.{Periodic, wrap}
use Rattle.rings.specs.RingWeights.{one_at}

-- ---- what comes round
module _ {A : Type 0} (n : ℕ) (f : ℕ → A) where
  pub wrap_periodic : Periodic n (wrap n f)
  wrap_periodic = record { again = λ i. ap f (add-mod_right i n) }

  turned : (j : ℕ) → Periodic n f → Periodic n (λ (d : ℕ). f (j + d))
  turned j r = record { again = λ i. sym (ap f (add_assoc j i n)) ∙ r.again (j + i) }

pub periodic_sub : (n : ℕ) (f g : ℕ → ℤ) → Periodic n f → Periodic n g → Periodic n (λ (d : ℕ). f d -ℤ g d)
periodic_sub n f g r s = record { again = λ i. ap₂ ◌-ℤ◌ (r.again i) (s.again i) }

-- ---- sums, one place on: what comes in and what goes out
slide : (n : ℕ) (f : ℕ → ℤ) → sum n (λ (d : ℕ). f (suc d)) +ℤ f 0 ≡ sum n f +ℤ f n
unfolding sum
slide zero f = refl
slide (suc n) f =
    same (var 0 ⊞ var 1 ⊞ var 2) (var 0 ⊞ var 2 ⊞ var 1) (sum n (λ (d : ℕ). f (suc d)) ∷ f (suc n) ∷ f 0 ∷ []) refl
    ∙ ap (λ (t : ℤ). t +ℤ f (suc n)) (slide n f)

slide_ring : (n : ℕ) (f : ℕ → ℤ) → Periodic n f → sum n (λ (d : ℕ). f (suc d)) ≡ sum n f
slide_ring n f r =
    same (var 0) (var 0 ⊞ var 1 ⊟ var 1) (sum n (λ (d : ℕ). f (suc d)) ∷ f 0 ∷ []) refl
    ∙ ap (λ (t : ℤ). t -ℤ f 0) (slide n f ∙ ap (λ (t : ℤ). sum n f +ℤ t) (sym (ap f (zero-add n)) ∙ r.again 0))
    ∙ same (var 0 ⊞ var 1 ⊟ var 1) (var 0) (sum n f ∷ f 0 ∷ []) refl

-- the sum round the ring does not depend on the place where it starts
pub sum_turned : (n : ℕ) (f : ℕ → ℤ) → Periodic n f → (j : ℕ) → sum n (λ (d : ℕ). f (j + d)) ≡ sum n f
sum_turned n f r zero = sum_cong n (λ (d : ℕ). f (0 + d)) f (λ d l. ap f (zero-add d))
sum_turned n f r (suc j) =
    sum_cong n (λ (d : ℕ). f (suc j + d)) (λ (d : ℕ). f (j + suc d)) (λ d l. let e : suc j + d ≡ j + suc d = omega arith in ap f e)
    ∙ slide_ring n (λ (d : ℕ). f (j + d)) (turned n f j r)
    ∙ sum_turned n f r j

-- ---- one place out of the ring
one_other : (e d : ℕ) (x : ℤ) → (d ≡ e → ⊥) → one_at e d *ℤ x ≡ pos 0
one_other e d x h = rw (ne_eqb d e h) (zero-*ℤ x)

one_none : (n e : ℕ) (f : ℕ → ℤ) → n ≤ e → sum n (λ (d : ℕ). one_at e d *ℤ f d) ≡ pos 0
unfolding sum
one_none zero e f h = refl
one_none (suc n) e f h = ap₂ ◌+ℤ◌ (one_none n e f (omega arith)) (one_other e n (f n) (λ k. omega arith))

one_step : (n e : ℕ) (f : ℕ → ℤ) → e < suc n → (e < n → sum n (λ (d : ℕ). one_at e d *ℤ f d) ≡ f e)
    → Dec (n ≡ e) → sum n (λ (d : ℕ). one_at e d *ℤ f d) +ℤ one_at e n *ℤ f n ≡ f e
one_step n e f h r (yes k) =
    ap₂ (λ (s : ℤ) (b : Bool). s +ℤ cond b (pos 1) (pos 0) *ℤ f n) (one_none n e f (omega arith)) (eq-eqb n e k)
    ∙ same (lit (pos 0) ⊞ lit (pos 1) ⊠ var 0) (var 0) (f n ∷ []) refl ∙ ap f k
one_step n e f h r (no k) = ap₂ ◌+ℤ◌ (r (omega arith)) (one_other e n (f n) k) ∙ +ℤ_idr (f e)

pub sum_one_at : (n e : ℕ) (f : ℕ → ℤ) → e < n → sum n (λ (d : ℕ). one_at e d *ℤ f d) ≡ f e
unfolding sum
sum_one_at zero e f h = absurd (omega arith)
sum_one_at (suc n) e f h = one_step n e f h (λ k. sum_one_at n e f k) (ℕ_discrete n e)
