-- Sums of a ring by weights: places, sizes, and the virtual point that they make.
use mathlib.Core.Path.{◌≡◌, refl, sym, ap, ap₂, ◌∙◌}
use mathlib.Core.List.{List, [], ◌∷◌}
use Prim.Native.Nat.{ℕ, ◌+◌, ◌-◌, ◌*◌, ◌%◌, ◌≤◌, ◌<◌}
use native.Mathlib.Nat.{zero-add, add-mod_right, mod-eq_of_lt, mul-le-mul}
use native.Mathlib.Decide.{dec_lt}
use native.Mathlib.Omega.{arith}
use lib.IntN.{ℤ, pos, nat_abs, ◌+ℤ◌, ◌*ℤ◌}
use lib.ListN.{get_or}
use borrow.Author.Tests.{lt-ltb, le-ltb}
use Rattle.integers.specs.Sum.{sum}
use Rattle.integers.specs.Within.{Within, WithinFirst}
use Rattle.integers.proofs.AbsoluteValue.{abs-add, abs-mul}
use Rattle.integers.proofs.Polynomial.{var, ◌⊞◌, ◌⊠◌, same}
use Rattle.integers.proofs.Sum.{abs-sum, sum_cong, sum_times}
use Rattle.curve.specs.Weights.{Weights}
use Rattle.rings.specs.Scales.{coordinate_range, extrapolated_scale}
use Rattle.rings.specs.Ring.{Periodic, wrap}
use Rattle.rings.specs.RingWeights.{virtual_z, weight_l, weight_k, row}
use Rattle.rings.proofs.Periodic.{wrap_periodic, sum_turned}
use Rattle.rings.proofs.Virtual.{virtual_weighted}
use Rattle.rings.proofs.Table.{row_l, row_k}
use Rattle.nets.specs.Net.{axis}
use Rattle.coordinates.specs.declared.Axes.{Axes}
use Rattle.coordinates.specs.Points.{OnAxes, Bounded}
use Rattle.coordinates.proofs.Values.{axis_bound}
use Rattle.ringsums.specs.Sums.{weight_range, sum_range, weighed, place_on, weighted_sum}

-- ---- places
pub place_before : (n s : ℕ) → s < n → place_on n s ≡ s
unfolding place_on
place_before n s b = rw (lt-ltb s n b)

pub place_after : (n s : ℕ) → n ≤ s → place_on n s ≡ s - n
unfolding place_on
place_after n s b = rw (le-ltb s n b)

pub place_lt : (n s : ℕ) → s < n + n → place_on n s < n
place_lt n s b = go (dec_lt s n)
  where
    go : Dec (s < n) → place_on n s < n
    go (yes c) = let e = place_before n s c in omega arith
    go (no c) = let e = place_after n s (omega arith) in omega arith

place_mod : (n s : ℕ) → s < n + n → place_on n s ≡ s % n
place_mod n s b = go (dec_lt s n)
  where
    go : Dec (s < n) → place_on n s ≡ s % n
    go (yes c) = place_before n s c ∙ sym (mod-eq_of_lt c)
    go (no c) =
        let e : s - n + n ≡ s = omega arith in
        let x : s - n < n = omega arith in
        place_after n s (omega arith) ∙ sym (mod-eq_of_lt x) ∙ sym (add-mod_right (s - n) n) ∙ ap (λ (i : ℕ). i % n) e

-- ---- sizes
pub weighed_small : (w : List ℤ) (d : ℕ) (x y : ℤ) (B : ℕ) → WithinFirst 16 weight_range w → d < 8 → nat_abs x ≤ B → nat_abs y ≤ B → nat_abs (weighed w d x y) ≤ 2 * weight_range * B
weighed_small w d x y B s b hx hy =
    let u : ℤ = get_or w d (pos 0) in
    let v : ℤ = get_or w (8 + d) (pos 0) in
    let a = abs-mul u x in
    let a' = mul-le-mul (s.at d (omega arith)) hx in
    let c = abs-mul v y in
    let c' = mul-le-mul (s.at (8 + d) (omega arith)) hy in
    let e = abs-add (u *ℤ x) (v *ℤ y) in
    omega arith

-- what face i adds
abbrev pub term : List ℤ → (n e : ℕ) → (ℕ → ℤ) → List ℕ → List ℕ → ℕ → ℤ
term w n e p L K i = weighed w (place_on n (e + i)) (p (get_or L i 0)) (p (get_or K i 0))

pub terms_small : (w : List ℤ) (n e m : ℕ) (t : List ℤ) (a : ℕ) (L K : List ℕ) → WithinFirst 16 weight_range w → Within coordinate_range t → m ≤ n → n ≤ 8 → e ≤ n
    → nat_abs (sum m (term w n e (axis t a) L K)) ≤ sum_range
terms_small w n e m t a L K s b h k g =
    let x = abs-sum m (term w n e (axis t a) L K) (2 * weight_range * coordinate_range)
    (λ i c. let q = place_lt n (e + i) (omega arith) in weighed_small w (place_on n (e + i)) (axis t a (get_or L i 0)) (axis t a (get_or K i 0)) coordinate_range s (omega arith) (axis_bound t a (get_or L i 0) b) (axis_bound t a (get_or K i 0) b)) in
    omega arith

pub sums_small : (w : List ℤ) (n e m : ℕ) (t : List ℤ) (L K : List ℕ) (p : Axes ℤ) → OnAxes (λ (a : ℕ). weighted_sum w n e m (axis t a) L K) p.x p.y p.z
    → WithinFirst 16 weight_range w → Within coordinate_range t → m ≤ n → n ≤ 8 → e ≤ n → Bounded sum_range p
sums_small w n e m t L K p f s b h k g =
    let on : (a : ℕ) → nat_abs (weighted_sum w n e m (axis t a) L K) ≤ sum_range = λ a. terms_small w n e m t a L K s b h k g in
    let e₀ = f.on₀ in
    let e₁ = f.on₁ in
    let e₂ = f.on₂ in
    record { on₀ = rw e₀ (on 0); on₁ = rw e₁ (on 1); on₂ = rw e₂ (on 2) }

-- ---- without weights
abbrev pub vertex_of : List ℤ → ℕ → List ℕ → ℕ → ℤ
vertex_of t a L i = axis t a (get_or L i 0)

pub vertices_small : (t : List ℤ) (a : ℕ) (L : List ℕ) (m : ℕ) → Within coordinate_range t → nat_abs (sum m (vertex_of t a L)) ≤ m * coordinate_range
vertices_small t a L m b = abs-sum m (vertex_of t a L) coordinate_range (λ i c. axis_bound t a (get_or L i 0) b)

-- ---- the weights of the row
weighed-row : (weights : Weights) (n d : ℕ) (x y : ℤ) → d < n → n ≤ 8 → weighed (row weights n) d x y ≡ weight_l weights n d *ℤ x +ℤ weight_k weights n d *ℤ y
weighed-row weights n d x y b k = ap₂ (λ (u v : ℤ). u *ℤ x +ℤ v *ℤ y) (row_l weights n d b k) (row_k weights n d b k)

-- a scaled sum is the sum of scaled values
scaled : (c u x v y : ℤ) → c *ℤ (u *ℤ x +ℤ v *ℤ y) ≡ u *ℤ (c *ℤ x) +ℤ v *ℤ (c *ℤ y)
scaled c u x v y = same (var 0 ⊠ (var 1 ⊠ var 2 ⊞ var 3 ⊠ var 4)) (var 1 ⊠ (var 0 ⊠ var 2) ⊞ var 3 ⊠ (var 0 ⊠ var 4)) (c ∷ u ∷ x ∷ v ∷ y ∷ []) refl

pub scaled_sum : (w : List ℤ) (n e m : ℕ) (p : ℕ → ℤ) (L K : List ℕ) (X Y : ℕ → ℤ) → ((i : ℕ) → i < m → pos extrapolated_scale *ℤ p (get_or L i 0) ≡ X i) → ((i : ℕ) → i < m → pos extrapolated_scale *ℤ p (get_or K i 0) ≡ Y i)
    → pos extrapolated_scale *ℤ weighted_sum w n e m p L K ≡ sum m (λ (i : ℕ). weighed w (place_on n (e + i)) (X i) (Y i))
scaled_sum w n e m p L K X Y f g =
    sym (sum_times (pos extrapolated_scale) m (term w n e p L K))
    ∙ sum_cong m (λ (i : ℕ). pos extrapolated_scale *ℤ term w n e p L K i) (λ (i : ℕ). weighed w (place_on n (e + i)) (X i) (Y i))
    (λ i b. let d : ℕ = place_on n (e + i) in
    scaled (pos extrapolated_scale) (get_or w d (pos 0)) (p (get_or L i 0)) (get_or w (8 + d) (pos 0)) (p (get_or K i 0)) ∙ ap₂ (weighed w d) (f i b) (g i b))

-- ---- the virtual point: on the first edge of a ring
pub virtual-first : (weights : Weights) (n : ℕ) (X Y : ℕ → ℤ) → Periodic n X → Periodic n Y → 3 ≤ n → n ≤ 8 → sum n (λ (i : ℕ). weighed (row weights n) (place_on n (0 + i)) (X i) (Y i)) ≡ virtual_z weights n X Y 0
virtual-first weights n X Y rx ry h k =
    sum_cong n (λ (i : ℕ). weighed (row weights n) (place_on n (0 + i)) (X i) (Y i)) (λ (i : ℕ). weight_l weights n i *ℤ X (0 + i) +ℤ weight_k weights n i *ℤ Y (0 + i))
    (λ i b.
    let z = zero-add i in
    let e : place_on n (0 + i) ≡ i = ap (place_on n) z ∙ place_before n i b in
    rw (e, z) (weighed-row weights n i (X i) (Y i) b k))
    ∙ sym (virtual_weighted weights n X Y rx ry 0 h)

-- and on edge j, where the places are counted from the start
pub virtual_turned : (weights : Weights) (n j : ℕ) (X Y : ℕ → ℤ) → 3 ≤ n → n ≤ 8 → 0 < j → j < n
    → sum n (λ (i : ℕ). weighed (row weights n) (place_on n (n - j + i)) (X i) (Y i)) ≡ virtual_z weights n (wrap n X) (wrap n Y) j
virtual_turned weights n j X Y h k some below =
    sum_cong n (λ (i : ℕ). weighed (row weights n) (place_on n (n - j + i)) (X i) (Y i)) f
    (λ i b.
    let q = place_lt n (n - j + i) (omega arith) in
    let e = place_mod n (n - j + i) (omega arith) in
    let z = mod-eq_of_lt b in
    weighed-row weights n (place_on n (n - j + i)) (X i) (Y i) q k ∙ rw (e, z))
    ∙ sym (sum_turned n f periodic j)
    ∙ sum_cong n (λ (d : ℕ). f (j + d)) (λ (d : ℕ). weight_l weights n d *ℤ wrap n X (j + d) +ℤ weight_k weights n d *ℤ wrap n Y (j + d))
    (λ d b.
    let s : n - j + (j + d) ≡ d + n = omega arith in
    let e : (n - j + (j + d)) % n ≡ d = ap (λ (i : ℕ). i % n) s ∙ add-mod_right d n ∙ mod-eq_of_lt b in
    rw e)
    ∙ sym (virtual_weighted weights n (wrap n X) (wrap n Y) (wrap_periodic n X) (wrap_periodic n Y) j h)
  where
    f : ℕ → ℤ
    f i = weight_l weights n ((n - j + i) % n) *ℤ wrap n X i +ℤ weight_k weights n ((n - j + i) % n) *ℤ wrap n Y i

    periodic : Periodic n f
    periodic = record {
      again = λ i.
          let e : (n - j + (i + n)) % n ≡ (n - j + i) % n = (let s : n - j + (i + n) ≡ n - j + i + n = omega arith in ap (λ (d : ℕ). d % n) s ∙ add-mod_right (n - j + i) n) in
          let q = add-mod_right i n in
          rw (e, q);
    }
