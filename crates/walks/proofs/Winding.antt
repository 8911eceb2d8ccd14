-- Turning from a half-edge as far as there are faces.
use mathlib.Core.Path.{◌≡◌, refl, sym, ap, ◌∙◌, subst}
use mathlib.Core.List.{List}
use Prim.Native.Nat.{ℕ, suc, ◌+◌, ◌≤◌, ◌<◌}
use native.Mathlib.Decide.{dec_lt}
use native.Mathlib.Omega.{arith}
use lib.ListN.{length}
use Rattle.search.specs.Search.{iterate}
use Rattle.topology.specs.Shape.{Shape}
use Rattle.topology.specs.HalfEdge.{from}
use Rattle.topology.specs.Boundary.{boundary_from, back}
use Rattle.topology.specs.Vertex.{valence, turn, turns}
use Rattle.topology.specs.Manifold.{Manifold}
use Rattle.topology.proofs.Mates.{to_prev}
use Rattle.topology.proofs.Turn.{turn-from}
use Rattle.topology.proofs.Boundary.{boundary_from-le, boundary_into_is, ring_boundary_into}
use Rattle.walks.proofs.Around.{ring_here, fan_here, fan_here_range}

-- i turns from h lead to g; in a fan g is i places or more from its start
pub record Winding (S : Shape) (l : List ℕ) (h g i : ℕ) : Type 0 where
  pub lt : g < length l
  pub leaves : from l g ≡ from l h
  pub place : boundary_from S l (from l h) < length l → (k : ℕ) × (turns S l k (boundary_from S l (from l h)) ≡ g) × (i ≤ k) × (k < valence l (from l h))

module _ (S : Shape) (v : ℕ) (l : List ℕ) (ok : Manifold S v l) (h : ℕ) (b : h < length l) where
  abbrev s : ℕ
  s = boundary_from S l (from l h)

  pub winding_start : Winding S l h h 0
  winding_start = record {
    lt = b;
    leaves = refl;
    place = λ o. let x = (fan_here S v l ok h b o).walk.all h b refl in (x.0, x.2, omega arith, x.1);
  }

  module _ (g i : ℕ) (u : Winding S l h g i) where
    pub winding_step : turn S l g < length l → Winding S l h (turn S l g) (i + 1)
    unfolding iterate
    winding_step m = record {
      lt = m;
      leaves = turn-from S v l ok.oriented g m ∙ u.leaves;
      place = λ o. let x = u.place o in go o x.0 x.1 x.2 x.3 (dec_lt (suc x.0) (valence l (from l h)));
    }
      where
        go : (o : s < length l) (k : ℕ) → turns S l k s ≡ g → i ≤ k → k < valence l (from l h) → Dec (suc k < valence l (from l h))
            → (j : ℕ) × (turns S l j s ≡ turn S l g) × (i + 1 ≤ j) × (j < valence l (from l h))
        go o k e c d (yes x) = (suc k, ap (turn S l) e, omega arith, x)
        go o k e c d (no x) =
            let y : valence l (from l h) ≡ suc k = omega arith in
            let f : turn S l (turns S l k s) ≡ length l = subst (λ (j : ℕ). turns S l j s ≡ length l) y (fan_here S v l ok h b o).ends in
            let w = ap (turn S l) e in
            let z : ⊥ = omega arith in absurd z

    pub winding_hit : turn S l g ≡ length l → S.prev g ≡ back S l h
    unfolding back turn
    winding_hit m =
        sym (boundary_into_is S v l ok (from l h) (S.prev g) (record { lt = ok.oriented.shape.prev_lt g u.lt; none = m }) (to_prev S (length l) ok.oriented.shape l g ∙ u.leaves))

    pub winding_end : 6 ≤ i → length l ≡ back S l h
    unfolding back
    winding_end c = sym (ring_boundary_into S v l ok.oriented (from l h) h (valence l (from l h)) (ring_here S v l ok h b (inner (dec_lt s (length l)))))
      where
        inner : Dec (s < length l) → boundary_from S l (from l h) ≡ length l
        inner (yes o) = let x = u.place o in let y = x.2 in let w = x.3 in let z = (fan_here_range S v l ok h b o).1 in let f : ⊥ = omega arith in absurd f
        inner (no o) = omega (arith, boundary_from-le S l (from l h))
