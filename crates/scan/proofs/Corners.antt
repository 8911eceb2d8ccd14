-- Laws of refusal 7 at one half-edge: the corners of its face, met side by side. Assumes nothing.
use mathlib.Core.Path.{◌≡◌, refl, sym, ap, ◌∙◌}
use mathlib.Core.Bool.{true, false}
use mathlib.Core.List.{List}
use Prim.Native.Nat.{ℕ, suc, ◌+◌, ◌-◌, ◌<◌, ◌≤◌}
use native.Mathlib.Decide.{dec_lt, ℕ_discrete}
use native.Mathlib.Omega.{arith}
use lib.Dec.{eqb, leb}
use lib.ListN.{length}
use borrow.Author.Tests.{eq-eqb, ne_eqb, eqb-true, le-leb, lt-leb}
use Rattle.search.specs.Search.{first, iterate}
use Rattle.search.proofs.Tests.{refuted, or_on, or_off}
use Rattle.search.proofs.First.{first_is, any_on, any_which}
use Rattle.search.proofs.Iterate.{iterate-add}
use Rattle.topology.specs.Shape.{Shape, Lawful}
use Rattle.topology.specs.HalfEdge.{from}
use Rattle.topology.proofs.Shape.{nexts_lt}
use Rattle.refusals.specs.Refusals.{bad_corner}

-- g lies k sides on from the side after h, and no corner met before it is that of h
pub record Circling (S : Shape) (l : List ℕ) (h g k : ℕ) : Type 0 where
  pub here : g ≡ iterate S.next (suc k) h
  pub few : k < S.sides h
  pub differ : (j : ℕ) → j < k → from l (iterate S.next (suc j) h) ≡ from l h → ⊥

-- how many sides on from g the side h comes
unfoldable pub steps_to : Shape → ℕ → ℕ → ℕ
steps_to S h g = first (λ (k : ℕ). eqb (iterate S.next k g) h) (S.sides h)

module _ (S : Shape) (v : ℕ) (l : List ℕ) (ok : Lawful S (length l)) (h : ℕ) (lt : h < length l) where
  pub corner_range : v ≤ from l h → bad_corner S v l h ≡ true
  unfolding bad_corner
  corner_range e = let t = le-leb v (from l h) e in rw t

  pub circling_start : Circling S l h (S.next h) 0
  unfolding iterate
  circling_start = record { here = refl; few = let a = ok.three h lt in omega arith; differ = λ j b. absurd (omega arith) }

  module _ (g k : ℕ) (c : Circling S l h g k) where
    pub circling_lt : g < length l
    circling_lt = let e = c.here in rw e (nexts_lt S (length l) ok (suc k) h lt)

    -- back at h with the last side, and not before
    all_met : g ≡ h → suc k ≡ S.sides h
    all_met e = go (dec_lt (suc k) (S.sides h))
      where
        go : Dec (suc k < S.sides h) → suc k ≡ S.sides h
        go (yes b) = absurd (ok.not_before h (suc k) lt (omega arith) b (sym c.here ∙ e))
        go (no b) = let f = c.few in omega arith

    not_all : (g ≡ h → ⊥) → suc k < S.sides h
    not_all n = go (ℕ_discrete (suc k) (S.sides h))
      where
        go : Dec (suc k ≡ S.sides h) → suc k < S.sides h
        go (yes e) = absurd (n (c.here ∙ ap (λ (i : ℕ). iterate S.next i h) e ∙ ok.closes h lt))
        go (no e) = let f = c.few in omega arith

    pub circling_hit : (g ≡ h → ⊥) → from l g ≡ from l h → bad_corner S v l h ≡ true
    unfolding bad_corner
    circling_hit n e =
        let b = not_all n in
        or_on (leb v (from l h)) _ (any_on (λ (k : ℕ). eqb (from l (iterate S.next (suc k) h)) (from l h)) (S.sides h - 1) k (omega arith)
        (eq-eqb _ _ (ap (from l) (sym c.here) ∙ e)))

    pub circling_next : (g ≡ h → ⊥) → (from l g ≡ from l h → ⊥) → Circling S l h (S.next g) (suc k)
    unfolding iterate
    circling_next n d = record {
      here = ap S.next c.here;
      few = not_all n;
      differ = λ j b. go j (dec_lt j k) b;
    }
      where
        go : (j : ℕ) → Dec (j < k) → j < suc k → from l (iterate S.next (suc j) h) ≡ from l h → ⊥
        go j (yes b) a = c.differ j b
        go j (no b) a = let e : j ≡ k = omega arith in λ x. d (ap (from l) c.here ∙ ap (λ (i : ℕ). from l (iterate S.next (suc i) h)) (sym e) ∙ x)

    pub circling_end : g ≡ h → from l h < v → bad_corner S v l h ≡ false
    unfolding bad_corner
    circling_end e b =
        let z = all_met e in
        or_off (leb v (from l h)) _ (lt-leb v (from l h) b)
        (refuted _ (λ t. let x = any_which (λ (k : ℕ). eqb (from l (iterate S.next (suc k) h)) (from l h)) (S.sides h - 1) t in c.differ x.0 (let y = x.1 in omega arith) (eqb-true _ _ x.2)))

    -- as many sides are left as k leaves
    steps_left : steps_to S h g ≡ S.sides h - suc k
    unfolding steps_to
    steps_left =
        let f = c.few in
        first_is _ (S.sides h) (S.sides h - suc k) (omega arith) (eq-eqb _ _ (on (S.sides h - suc k) ∙ ap (λ (i : ℕ). iterate S.next i h) last ∙ ok.closes h lt))
        (λ j b. ne_eqb _ _ (λ e. ok.not_before h (j + suc k) lt (omega arith) (omega arith) (sym (on j) ∙ e)))
      where
        on : (j : ℕ) → iterate S.next j g ≡ iterate S.next (j + suc k) h
        on j = ap (iterate S.next j) c.here ∙ sym (iterate-add S.next j (suc k) h)

        last : S.sides h - suc k + suc k ≡ S.sides h
        last = let f = c.few in omega arith

  pub circling_less : (g k : ℕ) → Circling S l h g k → (g ≡ h → ⊥) → (from l g ≡ from l h → ⊥) → steps_to S h (S.next g) < steps_to S h g
  circling_less g k c n d = omega (arith, steps_left g k c, steps_left (S.next g) (suc k) (circling_next g k c n d), not_all g k c n)
