-- The rules in fractions are those in whole numbers, over one denominator; and the boundary rules, rounded, are the curve's. Assumes nothing.
use mathlib.Core.Path.{◌≡◌, refl, sym, ap, subst, ◌∙◌}
use mathlib.Core.Bool.{Bool}
use mathlib.Core.List.{[], ◌∷◌}
use Prim.Native.Nat.{ℕ, ◌+◌, ◌-◌, ◌*◌, ◌/◌, ◌≤◌, ◌<◌}
use native.Mathlib.Nat.{mul_assoc, mul_comm, mul-one}
use native.Mathlib.Omega.{arith}
use lib.Dec.{eqb, eqb→eq}
use lib.IntN.{ℤ, pos, ◌+ℤ◌, ◌*ℤ◌}
use Rattle.lists.proofs.Table.{below_at}
use Rattle.integers.specs.Sum.{sum}
use Rattle.integers.proofs.Polynomial.{var, lit, ◌⊠◌, same}
use Rattle.curve.specs.Weights.{Weights, scale, interior, end_edge, single_edge}
use Rattle.curve.specs.Curve.{rounded}
use Rattle.fractions.specs.Fraction.{Fraction, whole, ◌×ᶠ◌, to_whole, Equals}
use Rattle.fractions.proofs.Laws.{to_whole_equals, equals_whole, equals_cong, equals_scaled, equals_add, equals_sub, equals_times, equals_over, equals_divided, equals_sum}
use Rattle.rings.specs.Scales.{extrapolated_scale, virtual_scale, edge_scale}
use Rattle.rules.specs.Rules.{interior_point, end_point, midpoint, extrapolated, extrapolated_corner, inner_edge}
use Rattle.rules.specs.Numerators.{extrapolated_z, extrapolated_corner_z, inner_edge_z}
use Rattle.rules.proofs.Examples

-- a whole number over k
pub whole_over : (k : ℕ) (a : ℤ) → Equals (whole a) (pos k *ℤ a) k
whole_over k a = equals_cong refl (mul-one k) (equals_scaled k (equals_whole a))

-- ---- the curve's rules on points over D: over scale · D. They serve boundary edges (D = 1), inner edges (D = `virtual_scale`) and directions of faces
-- (D = `edge_scale`).
module _ (w : Weights) (some : 0 < scale w) where
  pub equals_interior : {p q r s : Fraction} {a b c d : ℤ} {D : ℕ} → Equals p a D → Equals q b D → Equals r c D → Equals s d D
      → Equals (interior_point w p q r s) (interior w a b c d) (scale w * D)
  unfolding interior_point
  equals_interior i j k l = equals_divided (scale w) some (equals_sub (equals_times w.near (equals_add j k)) (equals_times w.far (equals_add i l)))

  pub equals_end : {p q r : Fraction} {a b c : ℤ} {D : ℕ} → Equals p a D → Equals q b D → Equals r c D → Equals (end_point w p q r) (end_edge w a b c) (scale w * D)
  unfolding end_point
  equals_end i j k = equals_divided (scale w) some (equals_sub (equals_add (equals_times (w.near - 2 * w.far) i) (equals_times (w.near + w.far) j)) (equals_times w.far k))

  pub equals_single : {p q : Fraction} {a b : ℤ} {D : ℕ} → Equals p a D → Equals q b D → Equals (midpoint p q) (single_edge w a b) (scale w * D)
  unfolding midpoint
  equals_single {D = D} i j =
      equals_cong refl (sym (mul_assoc (w.near - w.far) 2 D) ∙ ap (λ (t : ℕ). t * D) (mul_comm (w.near - w.far) 2)) (equals_scaled (w.near - w.far) (equals_divided 2 (omega arith) (equals_add i j)))

  -- on whole points; rounded, they are the rules of the curve
  pub whole-interior : (p q r s : ℤ) → Equals (interior_point w (whole p) (whole q) (whole r) (whole s)) (interior w p q r s) (scale w)
  whole-interior p q r s = equals_cong refl (mul-one (scale w)) (equals_interior (equals_whole p) (equals_whole q) (equals_whole r) (equals_whole s))

  pub whole_end : (p q r : ℤ) → Equals (end_point w (whole p) (whole q) (whole r)) (end_edge w p q r) (scale w)
  whole_end p q r = equals_cong refl (mul-one (scale w)) (equals_end (equals_whole p) (equals_whole q) (equals_whole r))

  pub whole_single : (p q : ℤ) → Equals (midpoint (whole p) (whole q)) (single_edge w p q) (scale w)
  whole_single p q = equals_cong refl (mul-one (scale w)) (equals_single (equals_whole p) (equals_whole q))

  pub interior-rounded : (p q r s : ℤ) → to_whole (interior_point w (whole p) (whole q) (whole r) (whole s)) ≡ (rounded w).inside p q r s
  interior-rounded p q r s = to_whole_equals some (whole-interior p q r s)

  pub end_rounded : (p q r : ℤ) → to_whole (end_point w (whole p) (whole q) (whole r)) ≡ (rounded w).end p q r
  end_rounded p q r = to_whole_equals some (whole_end p q r)

  pub single_rounded : (p q : ℤ) → to_whole (midpoint (whole p) (whole q)) ≡ (rounded w).single p q
  single_rounded p q = to_whole_equals some (whole_single p q)

  -- ---- inner edges
  pub equals_inner : (P Q : ℤ) {v_p v_q : Fraction} {z_p z_q : ℤ} → Equals v_p z_p (virtual_scale w) → Equals v_q z_q (virtual_scale w)
      → Equals (inner_edge w (whole P) (whole Q) v_p v_q) (inner_edge_z w P Q z_p z_q) (edge_scale w)
  equals_inner P Q i j = equals_interior i (whole_over (virtual_scale w) P) (whole_over (virtual_scale w) Q) j

-- the mean of both directions
pub equals_mean : {x y : Fraction} {a b : ℤ} {D : ℕ} → Equals x a D → Equals y b D → Equals (midpoint x y) (a +ℤ b) (2 * D)
unfolding midpoint
equals_mean i j = equals_divided 2 (omega arith) (equals_add i j)

-- ---- extrapolated points
divides : ℕ → Bool
divides i = eqb (extrapolated_scale / (i + 1) * (i + 1)) extrapolated_scale

pub edges_divide : (r : ℕ) → 1 ≤ r → r ≤ 5 → extrapolated_scale / r * r ≡ extrapolated_scale
unfolding divides
edges_divide r h k =
    let e : r - 1 + 1 ≡ r = omega arith in
    subst (λ (m : ℕ). extrapolated_scale / m * m ≡ extrapolated_scale) e (eqb→eq (extrapolated_scale / (r - 1 + 1) * (r - 1 + 1)) extrapolated_scale (below_at 5 divides tt (r - 1) (omega arith)))

twice : (P : ℤ) → Equals (2 ×ᶠ whole P) (pos (2 * extrapolated_scale) *ℤ P) extrapolated_scale
twice P = equals_cong (same (lit (pos 2) ⊠ (lit (pos extrapolated_scale) ⊠ var 0)) (lit (pos (2 * extrapolated_scale)) ⊠ var 0) (P ∷ []) refl) refl (equals_times 2 (whole_over extrapolated_scale P))

pub equals_extrapolated : (P : ℤ) (r : ℕ) (ends : ℕ → ℤ) → 1 ≤ r → r ≤ 5 → Equals (extrapolated (whole P) r (λ (i : ℕ). whole (ends i))) (extrapolated_z P r ends) extrapolated_scale
unfolding extrapolated
equals_extrapolated P r ends h k =
    let c : ℕ = extrapolated_scale / r in
    let d : pos extrapolated_scale ≡ pos c *ℤ pos r = ap pos (sym (edges_divide r h k)) in
    equals_sub (twice P)
    (equals_over r (pos c *ℤ sum r ends) h (ap (λ (t : ℤ). t *ℤ sum r ends) d ∙ same ((var 0 ⊠ var 1) ⊠ var 2) (var 1 ⊠ (var 0 ⊠ var 2)) (pos c ∷ pos r ∷ sum r ends ∷ []) refl)
    (equals_scaled extrapolated_scale (equals_sum r (λ (i : ℕ). whole (ends i)) ends 1 (λ i z. equals_whole (ends i)))))

pub equals_extrapolated-corner : (P Q : ℤ) → Equals (extrapolated_corner (whole P) (whole Q)) (extrapolated_corner_z P Q) extrapolated_scale
unfolding extrapolated_corner
equals_extrapolated-corner P Q = equals_sub (twice P) (whole_over extrapolated_scale Q)
