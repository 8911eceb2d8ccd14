-- Turning back from a half-edge as far as there are mates.
use mathlib.Core.Path.{◌≡◌, refl, sym, ap, ◌∙◌, subst}
use mathlib.Core.List.{List}
use Prim.Native.Nat.{ℕ, zero, suc, ◌+◌, ◌≤◌, ◌<◌}
use native.Mathlib.Decide.{dec_lt}
use native.Mathlib.Omega.{arith}
use lib.ListN.{length}
use lib.Dec.{eqb}
use borrow.Author.Tests.{eq-eqb, eqb-true}
use Rattle.search.specs.Search.{first, iterate}
use Rattle.search.proofs.First.{first_only}
use Rattle.topology.specs.Shape.{Shape}
use Rattle.topology.specs.HalfEdge.{from, mate}
use Rattle.topology.specs.Boundary.{boundary_from}
use Rattle.topology.specs.Vertex.{valence, turn, turns, unturn}
use Rattle.topology.specs.Manifold.{Manifold}
use Rattle.topology.proofs.Turn.{unturn-turn, unturn-lt, unturn-from, turned_mate}
use Rattle.topology.proofs.Boundary.{boundary_from-le, boundary_from_is, boundary_from_on}
use Rattle.walks.proofs.Around.{fan_here, fan_here_range, fan_differ}

-- i turns back from h lead to g, where the fan, if there is one, has not begun yet
pub record Unwinding (S : Shape) (l : List ℕ) (h g i : ℕ) : Type 0 where
  pub lt : g < length l
  pub leaves : from l g ≡ from l h
  pub place : boundary_from S l (from l h) < length l
      → (k : ℕ) × (turns S l k (boundary_from S l (from l h)) ≡ g) × (turns S l (k + i) (boundary_from S l (from l h)) ≡ h) × (k + i < valence l (from l h))

module _ (S : Shape) (v : ℕ) (l : List ℕ) (ok : Manifold S v l) (h : ℕ) (b : h < length l) where
  abbrev s : ℕ
  s = boundary_from S l (from l h)

  pub unwinding_start : Unwinding S l h h 0
  unwinding_start = record {
    lt = b;
    leaves = refl;
    place = λ o. let x = (fan_here S v l ok h b o).walk.all h b refl in let e : x.0 + 0 ≡ x.0 = omega arith in let c = x.1 in (x.0, x.2, ap (λ (k : ℕ). turns S l k s) e ∙ x.2, omega arith);
  }

  module _ (g i : ℕ) (u : Unwinding S l h g i) where
    pub unwinding_step : mate S l g < length l → Unwinding S l h (S.next (mate S l g)) (i + 1)
    unfolding unturn iterate
    unwinding_step m = record {
      lt = unturn-lt S v l ok.oriented g m;
      leaves = unturn-from S v l ok.oriented g m ∙ u.leaves;
      place = λ o. let x = u.place o in go o x.0 x.1 x.2 x.3;
    }
      where
        go : (o : s < length l) (k : ℕ) → turns S l k s ≡ g → turns S l (k + i) s ≡ h → k + i < valence l (from l h)
            → (j : ℕ) × (turns S l j s ≡ unturn S l g) × (turns S l (j + (i + 1)) s ≡ h) × (j + (i + 1) < valence l (from l h))
        go o zero e f c = let n = (boundary_from_on S l (from l h) o).none in let y = ap (mate S l) e in let z : ⊥ = omega arith in absurd z
        go o (suc k) e f c =
            let y : suc k + i ≡ k + (i + 1) = omega arith in
            let w = (fan_here S v l ok h b o).walk in
            let t : turn S l (turns S l k s) < length l = rw e u.lt in
            (k, sym (unturn-turn S v l ok.oriented (turns S l k s) (w.inside k (omega arith)) t) ∙ ap (unturn S l) e, ap (λ (j : ℕ). turns S l j s) (sym y) ∙ f, omega arith)

    pub unwinding_hit : mate S l g ≡ length l → g ≡ s
    unwinding_hit m = sym (boundary_from_is S v l ok (from l h) g (record { lt = u.lt; none = m }) u.leaves)

    -- and i is the place of h in the fan
    pub unwinding_place : mate S l g ≡ length l → s < length l → i ≡ first (λ (j : ℕ). eqb (turns S l j s) h) (valence l (from l h))
    unfolding iterate
    unwinding_place m o = let x = u.place o in go x.0 x.1 x.2 x.3
      where
        same : (j : ℕ) → turns S l i s ≡ h → i < valence l (from l h) → j < valence l (from l h) → turns S l j s ≡ h → j ≡ i
        same j e c d f = by (dec_lt i j) (dec_lt j i)
          where
            by : Dec (i < j) → Dec (j < i) → j ≡ i
            by (yes x) y = absurd (fan_differ S v l ok h b o i j x d (e ∙ sym f))
            by (no x) (yes y) = absurd (fan_differ S v l ok h b o j i y c (f ∙ sym e))
            by (no x) (no y) = omega arith

        go : (k : ℕ) → turns S l k s ≡ g → turns S l (k + i) s ≡ h → k + i < valence l (from l h) → i ≡ first (λ (j : ℕ). eqb (turns S l j s) h) (valence l (from l h))
        go zero e f c =
            let y : 0 + i ≡ i = omega arith in
            let d : turns S l i s ≡ h = ap (λ (j : ℕ). turns S l j s) (sym y) ∙ f in
            sym (first_only (λ (j : ℕ). eqb (turns S l j s) h) (valence l (from l h)) i (omega arith) (eq-eqb (turns S l i s) h d)
            (λ j a t. same j d (omega arith) a (eqb-true (turns S l j s) h t)))
        go (suc k) e f c =
            let t : turn S l (turns S l k s) < length l = rw e u.lt in
            let x : mate S l g < length l = subst (λ (y : ℕ). mate S l y < length l) e (turned_mate S v l ok.oriented (turns S l k s) ((fan_here S v l ok h b o).walk.inside k (omega arith)) t) in
            let z : ⊥ = omega arith in absurd z

    pub unwinding_end : 6 ≤ i → length l ≡ s
    unwinding_end c = sym (omega (arith, boundary_from-le S l (from l h), never))
      where
        never : s < length l → ⊥
        never o = let x = u.place o in let y = x.3 in let z = (fan_here_range S v l ok h b o).1 in omega arith
