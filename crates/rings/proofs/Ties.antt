-- The virtual point in fractions is the one in whole numbers, over one denominator. Assumes nothing.
use mathlib.Core.Path.{◌≡◌, refl, ap, subst, ◌∙◌}
use mathlib.Core.Bool.{Bool}
use mathlib.Core.List.{[], ◌∷◌}
use Prim.Native.Nat.{ℕ, ◌+◌, ◌-◌, ◌*◌, ◌/◌, ◌≤◌, ◌<◌}
use native.Mathlib.Nat.{mul-pos}
use native.Mathlib.Omega.{arith}
use lib.Dec.{eqb, eqb→eq}
use lib.IntN.{ℤ, pos, nat_abs, ◌+ℤ◌, ◌*ℤ◌}
use Rattle.lists.proofs.Table.{below_at}
use Rattle.integers.specs.Sum.{sum}
use Rattle.integers.proofs.Polynomial.{var, lit, ◌⊞◌, ◌⊟◌, ◌⊠◌, same}
use Rattle.curve.specs.Weights.{Weights}
use Rattle.fractions.specs.Fraction.{Fraction, Equals}
use Rattle.fractions.proofs.Laws.{equals_cong, equals_scaled, equals_add, equals_sub, equals_times, equals_over, equals_sum, equals_reduced}
use Rattle.rings.specs.Ring.{Periodic, virtual}
use Rattle.rings.specs.RingWeights.{virtual_z, virtual_numerator}
use Rattle.rings.specs.Scales.{extrapolated_scale, valence_scale, virtual_scale}
use Rattle.rings.proofs.Virtual.{virtual_constant, virtual-across}

-- ---- at any valence and any weights, the ring being given over e
module _ (w : Weights) (some : 0 < w.near) (n : ℕ) (l k : ℕ → Fraction) (L K : ℕ → ℤ) (e : ℕ) (h : 0 < n)
    (el : (i : ℕ) → Equals (l i) (L i) e) (ek : (i : ℕ) → Equals (k i) (K i) e) (j : ℕ) where
  pub equals_virtual : Equals (virtual w n l k j) (virtual_z w n L K j) (w.near * n * e)
  unfolding virtual virtual_z
  equals_virtual =
      let N : ℤ = pos n in
      let a : ℤ = pos w.near in
      let f : ℤ = pos w.far in
      let ll : ℤ = L (j + (n - 1)) +ℤ L j +ℤ L (j + 1) in
      let kk : ℤ = K (j + (n - 2)) +ℤ K (j + (n - 1)) +ℤ K j +ℤ K (j + 1) in
      equals_cong
      (same (var 0 ⊠ (lit (pos 4) ⊠ var 3) ⊟ var 0 ⊠ var 2 ⊠ var 4 ⊞ var 1 ⊠ (var 2 ⊠ var 5) ⊟ var 1 ⊠ (lit (pos 4) ⊠ var 6)) (var 0 ⊠ (lit (pos 4) ⊠ var 3 ⊟ var 2 ⊠ var 4) ⊞ var 1 ⊠ (var 2 ⊠ var 5 ⊟ lit (pos 4) ⊠ var 6))
      (a ∷ f ∷ N ∷ sum n L ∷ ll ∷ kk ∷ sum n K ∷ []) refl) refl
      (equals_sub
      (equals_add
      (equals_sub
      (equals_over n (a *ℤ (pos 4 *ℤ sum n L)) h (same (lit (pos 4) ⊠ (var 0 ⊠ var 1 ⊠ var 2)) (var 1 ⊠ (var 0 ⊠ (lit (pos 4) ⊠ var 2))) (a ∷ N ∷ sum n L ∷ []) refl)
      (equals_times 4 (equals_scaled (w.near * n) (equals_sum n l L e (λ i z. el i)))))
      (equals_scaled (w.near * n) (equals_add (equals_add (el (j + (n - 1))) (el j)) (el (j + 1)))))
      (equals_over w.near (f *ℤ (N *ℤ kk)) some (same (var 3 ⊠ (var 0 ⊠ var 1 ⊠ var 2)) (var 0 ⊠ (var 3 ⊠ (var 1 ⊠ var 2))) (a ∷ N ∷ kk ∷ f ∷ []) refl)
      (equals_times w.far (equals_scaled (w.near * n) (equals_add (equals_add (equals_add (ek (j + (n - 2))) (ek (j + (n - 1)))) (ek j)) (ek (j + 1)))))))
      (equals_over (w.near * n) (f *ℤ (pos 4 *ℤ sum n K)) (mul-pos some h) (same (lit (pos 4) ⊠ var 3 ⊠ (var 0 ⊠ var 1 ⊠ var 2)) (var 0 ⊠ var 1 ⊠ (var 3 ⊠ (lit (pos 4) ⊠ var 2))) (a ∷ N ∷ sum n K ∷ f ∷ []) refl)
      (equals_times (4 * w.far) (equals_scaled (w.near * n) (equals_sum n k K e (λ i z. ek i))))))

-- Paper 01: "For n = 4 inside, v is the neighbour straight across"
pub straight-across : (w : Weights) → 0 < w.near → (l k : ℕ → Fraction) (L K : ℕ → ℤ) (e : ℕ) → Periodic 4 L → Periodic 4 K
    → ((i : ℕ) → Equals (l i) (L i) e) → ((i : ℕ) → Equals (k i) (K i) e) → (j : ℕ) → Equals (virtual w 4 l k j) (L (j + 2)) e
straight-across w some l k L K e rl rk el ek j =
    equals_reduced (w.near * 4) (L (j + 2)) e (omega arith)
    (equals_cong (virtual-across w L K rl rk j) refl (equals_virtual w some 4 l k L K e (omega arith) el ek j))

-- ---- over one denominator for the valences 3 to 8
divides : ℕ → Bool
divides i = eqb (valence_scale / (i + 3) * (i + 3)) valence_scale

valence_divides : (n : ℕ) → 3 ≤ n → n ≤ 8 → valence_scale / n * n ≡ valence_scale
unfolding divides
valence_divides n h k =
    let e : n - 3 + 3 ≡ n = omega arith in
    subst (λ (m : ℕ). valence_scale / m * m ≡ valence_scale) e (eqb→eq (valence_scale / (n - 3 + 3) * (n - 3 + 3)) valence_scale (below_at 6 divides tt (n - 3) (omega arith)))

module _ (w : Weights) (n : ℕ) (h : 3 ≤ n) (g : n ≤ 8) where
  -- a multiple of the near weight and n, times what n leaves of `valence_scale`
  pub over_valence : (e : ℕ) → valence_scale / n * (w.near * n * e) ≡ w.near * (valence_scale * e)
  over_valence e =
      ap nat_abs (same (var 0 ⊠ (var 1 ⊠ var 2 ⊠ var 3)) (var 1 ⊠ (var 0 ⊠ var 2 ⊠ var 3)) (pos (valence_scale / n) ∷ pos w.near ∷ pos n ∷ pos e ∷ []) refl)
      ∙ ap (λ (t : ℕ). w.near * (t * e)) (valence_divides n h g)

  pub equals_numerator : 0 < w.near → (l k : ℕ → Fraction) (L K : ℕ → ℤ) → ((i : ℕ) → Equals (l i) (L i) extrapolated_scale) → ((i : ℕ) → Equals (k i) (K i) extrapolated_scale) → (j : ℕ)
      → Equals (virtual w n l k j) (virtual_numerator w n L K j) (virtual_scale w)
  equals_numerator some l k L K el ek j = equals_cong refl (over_valence extrapolated_scale) (equals_scaled (valence_scale / n) (equals_virtual w some n l k L K extrapolated_scale (omega arith) el ek j))

  -- a constant ring gives the constant
  pub numerator_constant : (c : ℤ) (j : ℕ) → virtual_numerator w n (λ (d : ℕ). pos extrapolated_scale *ℤ c) (λ (d : ℕ). pos extrapolated_scale *ℤ c) j ≡ pos (virtual_scale w) *ℤ c
  numerator_constant c j =
      ap (λ (t : ℤ). pos (valence_scale / n) *ℤ t) (virtual_constant w n (pos extrapolated_scale *ℤ c) j)
      ∙ same (var 0 ⊠ (var 1 ⊠ var 2 ⊠ (lit (pos extrapolated_scale) ⊠ var 3))) (var 0 ⊠ (var 1 ⊠ var 2 ⊠ lit (pos extrapolated_scale)) ⊠ var 3) (pos (valence_scale / n) ∷ pos w.near ∷ pos n ∷ c ∷ []) refl
      ∙ ap (λ (t : ℕ). pos t *ℤ c) (over_valence extrapolated_scale)
