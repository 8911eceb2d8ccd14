-- Both directions of a face agree exactly, at any valences of its corners from 3 on and at any weights, where every corner has a full ring and the virtual
-- points on the edges beyond are the neighbours straight across, as they are at valence 4. Assumes nothing.
--
-- Corner i has the ring l i, k i of valence n i, counted from side i: l i 0 is corner i + 1, l i 1 is corner i - 1, k i 0 the opposite corner. Beyond side i lies
-- the edge from l i (n i - 1), beside corner i, to l (i + 1) 2, beside corner i + 1; and straight across there are k i (n i - 2) and k (i + 1) 2.
use mathlib.Core.Path.{◌≡◌, refl, ap, ap₂, subst, ◌∙◌}
use mathlib.Core.List.{List, [], ◌∷◌}
use Prim.Native.Nat.{ℕ, zero, suc, ◌+◌, ◌-◌, ◌*◌, ◌≤◌, ◌<◌}
use native.Mathlib.Nat.{zero-add, mul-pos}
use native.Mathlib.Omega.{arith}
use lib.IntN.{ℤ, pos, nat_abs, ◌+ℤ◌, ◌-ℤ◌, ◌*ℤ◌}
use Rattle.integers.proofs.Polynomial.{Poly, var, lit, ◌⊞◌, ◌⊟◌, ◌⊠◌, same}
use Rattle.curve.specs.Weights.{Weights, scale, interior}
use Rattle.fractions.specs.Fraction.{Fraction, whole, Equals, Same}
use Rattle.fractions.proofs.Laws.{equals_whole, equals_cong, equals_scaled, same_of_equals}
use Rattle.rings.specs.Ring.{Periodic}
use Rattle.rings.specs.RingWeights.{virtual_z}
use Rattle.rings.proofs.Virtual.{virtual_next}
use Rattle.rules.specs.Rules.{inner_edge, direction_two}
use Rattle.rules.proofs.Ties.{equals_interior}

-- ---- the algebra, over one denominator
-- at a corner: p and m are the virtual points towards the next and the last corner, a and b the neighbours beyond, s and t what is across from there
pub record Compatible (w : Weights) (p m a b s t : ℤ) : Type 0 where
  pub law : pos w.near *ℤ (m -ℤ p) ≡ pos w.near *ℤ (a -ℤ b) +ℤ pos w.far *ℤ (t -ℤ s)

-- the law of a ring: the virtual points of neighbouring edges
virtual_compatible : (w : Weights) (n : ℕ) (L K : ℕ → ℤ) (q : ℕ) → 3 ≤ n → Periodic n L → Periodic n K
    → Compatible w (pos q *ℤ virtual_z w n L K 0) (pos q *ℤ virtual_z w n L K 1)
    (pos (q * (w.near * n)) *ℤ L (n - 1)) (pos (q * (w.near * n)) *ℤ L 2) (pos (q * (w.near * n)) *ℤ K (n - 2)) (pos (q * (w.near * n)) *ℤ K 2)
virtual_compatible w n L K q h rl rk =
    let v₀ : ℤ = virtual_z w n L K 0 in
    let v₁ : ℤ = virtual_z w n L K 1 in
    let x : ℤ = L (n - 1) in
    let y : ℤ = K (n - 2) in
    let z₁ : L (0 + (n - 1)) ≡ x = ap L (zero-add (n - 1)) in
    let z₂ : K (0 + (n - 2)) ≡ y = ap K (zero-add (n - 2)) in
    let next : v₁ -ℤ v₀ ≡ pos n *ℤ (pos w.near *ℤ (x -ℤ L 2) +ℤ pos w.far *ℤ (K 2 -ℤ y)) =
    virtual_next w n L K rl rk 0 h ∙ ap₂ (λ (s t : ℤ). pos n *ℤ (pos w.near *ℤ (s -ℤ L 2) +ℤ pos w.far *ℤ (K 2 -ℤ t))) z₁ z₂ in
    record {
      law =
          same (var 0 ⊠ (var 2 ⊠ var 4 ⊟ var 2 ⊠ var 3)) (var 0 ⊠ var 2 ⊠ (var 4 ⊟ var 3)) (pos w.near ∷ pos w.far ∷ pos q ∷ v₀ ∷ v₁ ∷ []) refl
          ∙ ap (λ (t : ℤ). pos w.near *ℤ pos q *ℤ t) next
          ∙ same (var 0 ⊠ var 2 ⊠ (var 3 ⊠ (var 0 ⊠ (var 4 ⊟ var 5) ⊞ var 1 ⊠ (var 7 ⊟ var 6))))
          (var 0 ⊠ ((var 2 ⊠ (var 0 ⊠ var 3)) ⊠ var 4 ⊟ (var 2 ⊠ (var 0 ⊠ var 3)) ⊠ var 5) ⊞ var 1 ⊠ ((var 2 ⊠ (var 0 ⊠ var 3)) ⊠ var 7 ⊟ (var 2 ⊠ (var 0 ⊠ var 3)) ⊠ var 6))
          (pos w.near ∷ pos w.far ∷ pos q ∷ pos n ∷ x ∷ L 2 ∷ y ∷ K 2 ∷ []) refl;
    }

abbrev interior_p : (p q r s : Poly) → Poly
interior_p p q r s = var 28 ⊠ (q ⊞ r) ⊟ var 29 ⊠ (p ⊞ s)

abbrev gap_p : ℕ → Poly
gap_p i = var 28 ⊠ (var (8 + i) ⊟ var (4 + i)) ⊟ (var 28 ⊠ (var (12 + i) ⊟ var (16 + i)) ⊞ var 29 ⊠ (var (24 + i) ⊟ var (20 + i)))

module _ (w : Weights) (c p m a b s t : ℕ → ℤ) where
  -- the points of the side from corner i to corner e, and of the edge beyond it
  abbrev pub side : ℕ → ℕ → ℤ
  side i e = interior w (p i) (c i) (c e) (m e)

  abbrev pub beyond : ℕ → ℕ → ℤ
  beyond i e = interior w (s i) (a i) (b e) (t e)

  gap : ℕ → ℤ
  gap i = pos w.near *ℤ (m i -ℤ p i) -ℤ (pos w.near *ℤ (a i -ℤ b i) +ℤ pos w.far *ℤ (t i -ℤ s i))

  directions_differ : interior w (beyond 0 1) (side 0 1) (side 2 3) (beyond 2 3)
      ≡ interior w (beyond 1 2) (side 1 2) (side 3 0) (beyond 3 0) +ℤ pos w.far *ℤ (gap 0 -ℤ gap 1 +ℤ gap 2 -ℤ gap 3)
  unfolding gap
  directions_differ =
      same
      (interior_p (interior_p (var 20) (var 12) (var 17) (var 25)) (interior_p (var 4) (var 0) (var 1) (var 9)) (interior_p (var 6) (var 2) (var 3) (var 11)) (interior_p (var 22) (var 14) (var 19) (var 27)))
      (interior_p (interior_p (var 21) (var 13) (var 18) (var 26)) (interior_p (var 5) (var 1) (var 2) (var 10)) (interior_p (var 7) (var 3) (var 0) (var 8)) (interior_p (var 23) (var 15) (var 16) (var 24))
      ⊞ var 29 ⊠ (gap_p 0 ⊟ gap_p 1 ⊞ gap_p 2 ⊟ gap_p 3))
      (c 0 ∷ c 1 ∷ c 2 ∷ c 3 ∷ p 0 ∷ p 1 ∷ p 2 ∷ p 3 ∷ m 0 ∷ m 1 ∷ m 2 ∷ m 3 ∷ a 0 ∷ a 1 ∷ a 2 ∷ a 3 ∷ b 0 ∷ b 1 ∷ b 2 ∷ b 3
      ∷ s 0 ∷ s 1 ∷ s 2 ∷ s 3 ∷ t 0 ∷ t 1 ∷ t 2 ∷ t 3 ∷ pos w.near ∷ pos w.far ∷ []) refl

  module _ (laws : (i : ℕ) → i < 4 → Compatible w (p i) (m i) (a i) (b i) (s i) (t i)) where
    closed : (i : ℕ) → i < 4 → gap i ≡ pos 0
    unfolding gap
    closed i h =
        let r : ℤ = pos w.near *ℤ (a i -ℤ b i) +ℤ pos w.far *ℤ (t i -ℤ s i) in
        ap (λ (x : ℤ). x -ℤ r) (laws i h).law ∙ same (var 0 ⊟ var 0) (lit (pos 0)) (r ∷ []) refl

    pub directions_equal : interior w (beyond 0 1) (side 0 1) (side 2 3) (beyond 2 3) ≡ interior w (beyond 1 2) (side 1 2) (side 3 0) (beyond 3 0)
    directions_equal =
        let x : ℤ = interior w (beyond 1 2) (side 1 2) (side 3 0) (beyond 3 0) in
        let f : ℤ = pos w.far in
        directions_differ
        ∙ ap₂ (λ (g h : ℤ). x +ℤ f *ℤ (g -ℤ h +ℤ gap 2 -ℤ gap 3)) (closed 0 (omega arith)) (closed 1 (omega arith))
        ∙ ap₂ (λ (g h : ℤ). x +ℤ f *ℤ (pos 0 -ℤ pos 0 +ℤ g -ℤ h)) (closed 2 (omega arith)) (closed 3 (omega arith))
        ∙ same (var 0 ⊞ var 1 ⊠ (lit (pos 0) ⊟ lit (pos 0) ⊞ lit (pos 0) ⊟ lit (pos 0))) (var 0) (x ∷ f ∷ []) refl

    -- so eight edge points whose numerators are these give one face point, whichever direction is taken
    directions_agree : (D : ℕ) → 0 < scale w → 0 < D → {b₀ s₀ s₂ b₂ b₁ s₁ s₃ b₃ : Fraction}
        → Equals b₀ (beyond 0 1) D → Equals s₀ (side 0 1) D → Equals s₂ (side 2 3) D → Equals b₂ (beyond 2 3) D
        → Equals b₁ (beyond 1 2) D → Equals s₁ (side 1 2) D → Equals s₃ (side 3 0) D → Equals b₃ (beyond 3 0) D
        → Same (direction_two w b₀ s₀ s₂ b₂) (direction_two w b₁ s₁ s₃ b₃)
    directions_agree D h k e₀ e₁ e₂ e₃ f₀ f₁ f₂ f₃ =
        same_of_equals (mul-pos h k) (equals_cong directions_equal refl (equals_interior w h e₀ e₁ e₂ e₃)) (equals_interior w h f₀ f₁ f₂ f₃)

-- ---- in fractions, from the rings of the corners
-- v and v' are the virtual points of the corner towards the next corner and the last; x and y those of the two neighbours beside it on the edges beyond
pub record Corner (w : Weights) (n : ℕ) (l k : ℕ → ℤ) (v v' x y : Fraction) : Type 0 where
  pub valence : 3 ≤ n
  pub neighbours : Periodic n l
  pub opposites : Periodic n k
  pub next : Equals v (virtual_z w n l k 0) (w.near * n)
  pub last : Equals v' (virtual_z w n l k 1) (w.near * n)
  pub across_next : Equals x (k (n - 2)) 1
  pub across_last : Equals y (k 2) 1

-- the product of the other three
abbrev cofactor : (ℕ → ℕ) → ℕ → ℕ
cofactor n zero = n 1 * n 2 * n 3
cofactor n (suc zero) = n 0 * n 2 * n 3
cofactor n (suc (suc zero)) = n 0 * n 1 * n 3
cofactor n (suc (suc (suc i))) = n 0 * n 1 * n 2

module _ (w : Weights) (c : ℕ → ℤ) (n : ℕ → ℕ) (l k : ℕ → ℕ → ℤ) (v v' x y : ℕ → Fraction) where
  abbrev pub side_at : ℕ → ℕ → Fraction
  side_at i e = inner_edge w (whole (c i)) (whole (c e)) (v i) (v' e)

  abbrev pub beyond_at : ℕ → ℕ → Fraction
  beyond_at i e = inner_edge w (whole (l i (n i - 1))) (whole (l e 2)) (x i) (y e)

  module _ (near : 0 < w.near) (apart : 0 < scale w) (corners : (i : ℕ) → i < 4 → Corner w (n i) (l i) (k i) (v i) (v' i) (x i) (y i)) where
    -- one denominator for all
    D : ℕ
    D = w.near * (n 0 * n 1 * n 2 * n 3)

    product : Poly
    product = var 0 ⊠ (var 1 ⊠ var 2 ⊠ var 3 ⊠ var 4)

    numbers : List ℤ
    numbers = pos w.near ∷ pos (n 0) ∷ pos (n 1) ∷ pos (n 2) ∷ pos (n 3) ∷ []

    common : (i : ℕ) → i < 4 → cofactor n i * (w.near * n i) ≡ D
    unfolding D product numbers
    common zero h = ap nat_abs (same ((var 2 ⊠ var 3 ⊠ var 4) ⊠ (var 0 ⊠ var 1)) product numbers refl)
    common (suc zero) h = ap nat_abs (same ((var 1 ⊠ var 3 ⊠ var 4) ⊠ (var 0 ⊠ var 2)) product numbers refl)
    common (suc (suc zero)) h = ap nat_abs (same ((var 1 ⊠ var 2 ⊠ var 4) ⊠ (var 0 ⊠ var 3)) product numbers refl)
    common (suc (suc (suc zero))) h = ap nat_abs (same ((var 1 ⊠ var 2 ⊠ var 3) ⊠ (var 0 ⊠ var 4)) product numbers refl)
    common (suc (suc (suc (suc i)))) h = absurd (omega arith)

    valence_some : (i : ℕ) → i < 4 → 0 < n i
    valence_some i h = let r = (corners i h).valence in omega arith

    some : 0 < D
    unfolding D
    some = mul-pos near (mul-pos (mul-pos (mul-pos (valence_some 0 (omega arith)) (valence_some 1 (omega arith))) (valence_some 2 (omega arith))) (valence_some 3 (omega arith)))

    -- the corners' numbers over D
    abbrev virtual_over : ℕ → ℕ → ℤ
    virtual_over j i = pos (cofactor n i) *ℤ virtual_z w (n i) (l i) (k i) j

    compatible : (i : ℕ) → i < 4 → Compatible w (virtual_over 0 i) (virtual_over 1 i) (pos D *ℤ l i (n i - 1)) (pos D *ℤ l i 2) (pos D *ℤ k i (n i - 2)) (pos D *ℤ k i 2)
    compatible i h =
        let r = corners i h in
        subst (λ (u : ℕ). Compatible w (virtual_over 0 i) (virtual_over 1 i) (pos u *ℤ l i (n i - 1)) (pos u *ℤ l i 2) (pos u *ℤ k i (n i - 2)) (pos u *ℤ k i 2)) (common i h)
        (virtual_compatible w (n i) (l i) (k i) (cofactor n i) r.valence r.neighbours r.opposites)

    over : {f : Fraction} {z : ℤ} (i : ℕ) → i < 4 → Equals f z (w.near * n i) → Equals f (pos (cofactor n i) *ℤ z) D
    over i h e = equals_cong refl (common i h) (equals_scaled (cofactor n i) e)

    point : {f : Fraction} {z : ℤ} → Equals f z 1 → Equals f (pos D *ℤ z) D
    point e = let o : D * 1 ≡ D = omega arith in equals_cong refl o (equals_scaled D e)

    equals_side : (i e : ℕ) → i < 4 → e < 4 → Equals (side_at i e) (interior w (virtual_over 0 i) (pos D *ℤ c i) (pos D *ℤ c e) (virtual_over 1 e)) (scale w * D)
    equals_side i e h g = equals_interior w apart (over i h (corners i h).next) (point (equals_whole (c i))) (point (equals_whole (c e))) (over e g (corners e g).last)

    equals_beyond : (i e : ℕ) → i < 4 → e < 4 → Equals (beyond_at i e) (interior w (pos D *ℤ k i (n i - 2)) (pos D *ℤ l i (n i - 1)) (pos D *ℤ l e 2) (pos D *ℤ k e 2)) (scale w * D)
    equals_beyond i e h g = equals_interior w apart (point (corners i h).across_next) (point (equals_whole (l i (n i - 1)))) (point (equals_whole (l e 2))) (point (corners e g).across_last)

    -- Paper 01: "both directions agree exactly"
    pub both_directions : Same (direction_two w (beyond_at 0 1) (side_at 0 1) (side_at 2 3) (beyond_at 2 3)) (direction_two w (beyond_at 1 2) (side_at 1 2) (side_at 3 0) (beyond_at 3 0))
    both_directions =
        let i₀ : 0 < 4 = omega arith in
        let i₁ : 1 < 4 = omega arith in
        let i₂ : 2 < 4 = omega arith in
        let i₃ : 3 < 4 = omega arith in
        directions_agree w (λ i. pos D *ℤ c i) (virtual_over 0) (virtual_over 1) (λ i. pos D *ℤ l i (n i - 1)) (λ i. pos D *ℤ l i 2) (λ i. pos D *ℤ k i (n i - 2)) (λ i. pos D *ℤ k i 2) compatible
        (scale w * D) apart (mul-pos apart some)
        (equals_beyond 0 1 i₀ i₁) (equals_side 0 1 i₀ i₁) (equals_side 2 3 i₂ i₃) (equals_beyond 2 3 i₂ i₃)
        (equals_beyond 1 2 i₁ i₂) (equals_side 1 2 i₁ i₂) (equals_side 3 0 i₃ i₀) (equals_beyond 3 0 i₃ i₀)
