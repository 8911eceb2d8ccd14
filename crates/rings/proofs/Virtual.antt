-- Laws of the virtual point in whole numbers, over near · n: at every valence n from 3 on and at any weights. Assumes nothing.
use mathlib.Core.Path.{◌≡◌, refl, sym, ap, ap₂, ◌∙◌}
use mathlib.Core.List.{[], ◌∷◌}
use Prim.Native.Nat.{ℕ, ◌+◌, ◌-◌, ◌*◌, ◌≤◌}
use native.Mathlib.Nat.{add-zero, zero-add}
use native.Mathlib.Omega.{arith}
use lib.IntN.{ℤ, pos, negsuc, ◌+ℤ◌, ◌-ℤ◌, ◌*ℤ◌}
use Rattle.integers.specs.Sum.{sum}
use Rattle.integers.proofs.Sum.{sum_cong, sum-add, sum_times, sum_const, sum-sub}
use Rattle.integers.proofs.Polynomial.{Poly, var, lit, ◌⊞◌, ◌⊟◌, ◌⊠◌, same}
use Rattle.curve.specs.Weights.{Weights}
use Rattle.rings.specs.Ring.{Periodic}
use Rattle.rings.specs.RingWeights.{virtual_z, one_at, weight_l, weight_k}
use Rattle.rings.proofs.Periodic.{sum_turned, sum_one_at}

-- the formula over its parts: near, far, n, the two sums, the three neighbours and the four corners; as a polynomial, and as a number
abbrev formula : (near far n sl sk a b c d e f g : Poly) → Poly
formula near far n sl sk a b c d e f g = near ⊠ (lit (pos 4) ⊠ sl ⊟ n ⊠ (a ⊞ b ⊞ c)) ⊞ far ⊠ (n ⊠ (d ⊞ e ⊞ f ⊞ g) ⊟ lit (pos 4) ⊠ sk)

abbrev formula_z : (w : Weights) (n : ℕ) (sl sk a b c d e f g : ℤ) → ℤ
formula_z w n sl sk a b c d e f g = pos w.near *ℤ (pos 4 *ℤ sl -ℤ pos n *ℤ (a +ℤ b +ℤ c)) +ℤ pos w.far *ℤ (pos n *ℤ (d +ℤ e +ℤ f +ℤ g) -ℤ pos 4 *ℤ sk)

-- ---- the weights
module _ (w : Weights) (n : ℕ) (f : ℕ → ℤ) (h : 3 ≤ n) where
  -- the three neighbours and the four corners that the formula names
  three : sum n (λ (d : ℕ). (one_at (n - 1) d +ℤ one_at 0 d +ℤ one_at 1 d) *ℤ f d) ≡ f (n - 1) +ℤ f 0 +ℤ f 1
  three =
      sum_cong n (λ (d : ℕ). (one_at (n - 1) d +ℤ one_at 0 d +ℤ one_at 1 d) *ℤ f d) (λ (d : ℕ). one_at (n - 1) d *ℤ f d +ℤ one_at 0 d *ℤ f d +ℤ one_at 1 d *ℤ f d)
      (λ d l. same ((var 0 ⊞ var 1 ⊞ var 2) ⊠ var 3) (var 0 ⊠ var 3 ⊞ var 1 ⊠ var 3 ⊞ var 2 ⊠ var 3) (one_at (n - 1) d ∷ one_at 0 d ∷ one_at 1 d ∷ f d ∷ []) refl)
      ∙ sum-add n (λ (d : ℕ). one_at (n - 1) d *ℤ f d +ℤ one_at 0 d *ℤ f d) (λ (d : ℕ). one_at 1 d *ℤ f d)
      ∙ ap₂ ◌+ℤ◌ (sum-add n (λ (d : ℕ). one_at (n - 1) d *ℤ f d) (λ (d : ℕ). one_at 0 d *ℤ f d) ∙ ap₂ ◌+ℤ◌ (sum_one_at n (n - 1) f (omega arith)) (sum_one_at n 0 f (omega arith))) (sum_one_at n 1 f (omega arith))

  four : sum n (λ (d : ℕ). (one_at (n - 2) d +ℤ one_at (n - 1) d +ℤ one_at 0 d +ℤ one_at 1 d) *ℤ f d) ≡ f (n - 2) +ℤ f (n - 1) +ℤ f 0 +ℤ f 1
  four =
      sum_cong n (λ (d : ℕ). (one_at (n - 2) d +ℤ one_at (n - 1) d +ℤ one_at 0 d +ℤ one_at 1 d) *ℤ f d) (λ (d : ℕ). one_at (n - 2) d *ℤ f d +ℤ (one_at (n - 1) d +ℤ one_at 0 d +ℤ one_at 1 d) *ℤ f d)
      (λ d l. same ((var 4 ⊞ var 0 ⊞ var 1 ⊞ var 2) ⊠ var 3) (var 4 ⊠ var 3 ⊞ (var 0 ⊞ var 1 ⊞ var 2) ⊠ var 3) (one_at (n - 1) d ∷ one_at 0 d ∷ one_at 1 d ∷ f d ∷ one_at (n - 2) d ∷ []) refl)
      ∙ sum-add n (λ (d : ℕ). one_at (n - 2) d *ℤ f d) (λ (d : ℕ). (one_at (n - 1) d +ℤ one_at 0 d +ℤ one_at 1 d) *ℤ f d)
      ∙ ap₂ ◌+ℤ◌ (sum_one_at n (n - 2) f (omega arith)) three
      ∙ same (var 0 ⊞ (var 1 ⊞ var 2 ⊞ var 3)) (var 0 ⊞ var 1 ⊞ var 2 ⊞ var 3) (f (n - 2) ∷ f (n - 1) ∷ f 0 ∷ f 1 ∷ []) refl

  two_sums : (c e : ℤ) (p : ℕ → ℤ) → sum n (λ (d : ℕ). c *ℤ f d +ℤ e *ℤ (p d *ℤ f d)) ≡ c *ℤ sum n f +ℤ e *ℤ sum n (λ (d : ℕ). p d *ℤ f d)
  two_sums c e p = sum-add n (λ (d : ℕ). c *ℤ f d) (λ (d : ℕ). e *ℤ (p d *ℤ f d)) ∙ ap₂ ◌+ℤ◌ (sum_times c n f) (sum_times e n (λ (d : ℕ). p d *ℤ f d))

  -- what the neighbours add, and what the opposite corners add
  weighted_l : sum n (λ (d : ℕ). weight_l w n d *ℤ f d) ≡ pos w.near *ℤ (pos 4 *ℤ sum n f -ℤ pos n *ℤ (f (n - 1) +ℤ f 0 +ℤ f 1))
  weighted_l =
      let W : ℤ = pos w.near in
      let N : ℤ = pos n in
      let p : ℕ → ℤ = λ d. one_at (n - 1) d +ℤ one_at 0 d +ℤ one_at 1 d in
      sum_cong n (λ (d : ℕ). weight_l w n d *ℤ f d) (λ (d : ℕ). (W *ℤ pos 4) *ℤ f d +ℤ (negsuc 0 *ℤ (W *ℤ N)) *ℤ (p d *ℤ f d))
      (λ d l. same (var 0 ⊠ (lit (pos 4) ⊟ var 1 ⊠ var 2) ⊠ var 3) ((var 0 ⊠ lit (pos 4)) ⊠ var 3 ⊞ (lit (negsuc 0) ⊠ (var 0 ⊠ var 1)) ⊠ (var 2 ⊠ var 3)) (W ∷ N ∷ p d ∷ f d ∷ []) refl)
      ∙ two_sums (W *ℤ pos 4) (negsuc 0 *ℤ (W *ℤ N)) p
      ∙ ap (λ (t : ℤ). (W *ℤ pos 4) *ℤ sum n f +ℤ (negsuc 0 *ℤ (W *ℤ N)) *ℤ t) three
      ∙ same ((var 0 ⊠ lit (pos 4)) ⊠ var 2 ⊞ (lit (negsuc 0) ⊠ (var 0 ⊠ var 1)) ⊠ var 3) (var 0 ⊠ (lit (pos 4) ⊠ var 2 ⊟ var 1 ⊠ var 3)) (W ∷ N ∷ sum n f ∷ (f (n - 1) +ℤ f 0 +ℤ f 1) ∷ []) refl

  weighted_k : sum n (λ (d : ℕ). weight_k w n d *ℤ f d) ≡ pos w.far *ℤ (pos n *ℤ (f (n - 2) +ℤ f (n - 1) +ℤ f 0 +ℤ f 1) -ℤ pos 4 *ℤ sum n f)
  weighted_k =
      let W : ℤ = pos w.far in
      let N : ℤ = pos n in
      let p : ℕ → ℤ = λ d. one_at (n - 2) d +ℤ one_at (n - 1) d +ℤ one_at 0 d +ℤ one_at 1 d in
      sum_cong n (λ (d : ℕ). weight_k w n d *ℤ f d) (λ (d : ℕ). (W *ℤ negsuc 3) *ℤ f d +ℤ (W *ℤ N) *ℤ (p d *ℤ f d))
      (λ d l. same (var 0 ⊠ (var 1 ⊠ var 2 ⊟ lit (pos 4)) ⊠ var 3) ((var 0 ⊠ lit (negsuc 3)) ⊠ var 3 ⊞ (var 0 ⊠ var 1) ⊠ (var 2 ⊠ var 3)) (W ∷ N ∷ p d ∷ f d ∷ []) refl)
      ∙ two_sums (W *ℤ negsuc 3) (W *ℤ N) p
      ∙ ap (λ (t : ℤ). (W *ℤ negsuc 3) *ℤ sum n f +ℤ (W *ℤ N) *ℤ t) four
      ∙ same ((var 0 ⊠ lit (negsuc 3)) ⊠ var 2 ⊞ (var 0 ⊠ var 1) ⊠ var 3) (var 0 ⊠ (var 1 ⊠ var 3 ⊟ lit (pos 4) ⊠ var 2)) (W ∷ N ∷ sum n f ∷ (f (n - 2) +ℤ f (n - 1) +ℤ f 0 +ℤ f 1) ∷ []) refl

-- ---- the formula
module _ (w : Weights) (n : ℕ) (l k : ℕ → ℤ) (rl : Periodic n l) (rk : Periodic n k) (j : ℕ) where
  -- it is the weighted sum round the ring
  pub virtual_weighted : 3 ≤ n → virtual_z w n l k j ≡ sum n (λ (d : ℕ). weight_l w n d *ℤ l (j + d) +ℤ weight_k w n d *ℤ k (j + d))
  unfolding virtual_z
  virtual_weighted h =
      let a : ℕ → ℤ = λ d. l (j + d) in
      let b : ℕ → ℤ = λ d. k (j + d) in
      ap (λ (i : ℕ). formula_z w n (sum n l) (sum n k) (a (n - 1)) (l i) (a 1) (b (n - 2)) (b (n - 1)) (k i) (b 1)) (sym (add-zero j))
      ∙ ap₂ (λ (s t : ℤ). formula_z w n s t (a (n - 1)) (a 0) (a 1) (b (n - 2)) (b (n - 1)) (b 0) (b 1)) (sym (sum_turned n l rl j)) (sym (sum_turned n k rk j))
      ∙ ap₂ ◌+ℤ◌ (sym (weighted_l w n a h)) (sym (weighted_k w n b h))
      ∙ sym (sum-add n (λ (d : ℕ). weight_l w n d *ℤ a d) (λ (d : ℕ). weight_k w n d *ℤ b d))

  -- the virtual point on the next edge
  pub virtual_next : 3 ≤ n → virtual_z w n l k (j + 1) -ℤ virtual_z w n l k j
      ≡ pos n *ℤ (pos w.near *ℤ (l (j + (n - 1)) -ℤ l (j + 2)) +ℤ pos w.far *ℤ (k (j + 2) -ℤ k (j + (n - 2))))
  unfolding virtual_z
  virtual_next h =
      let e₁ : j + 1 + (n - 1) ≡ j + n = omega arith in
      let e₂ : j + 1 + (n - 2) ≡ j + (n - 1) = omega arith in
      let e₃ : j + 1 + 1 ≡ j + 2 = omega arith in
      let l₋ : l (j + 1 + (n - 1)) ≡ l j = ap l e₁ ∙ rl.again j in
      let k₋ : k (j + 1 + (n - 1)) ≡ k j = ap k e₁ ∙ rk.again j in
      rw (l₋, k₋, ap l e₃, ap k e₃, ap k e₂)
      (same
      (formula (var 12) (var 13) (var 0) (var 1) (var 2) (var 4) (var 5) (var 6) (var 8) (var 9) (var 10) (var 11) ⊟ formula (var 12) (var 13) (var 0) (var 1) (var 2) (var 3) (var 4) (var 5) (var 7) (var 8) (var 9) (var 10))
      (var 0 ⊠ (var 12 ⊠ (var 3 ⊟ var 6) ⊞ var 13 ⊠ (var 11 ⊟ var 7)))
      (pos n ∷ sum n l ∷ sum n k ∷ l (j + (n - 1)) ∷ l j ∷ l (j + 1) ∷ l (j + 2) ∷ k (j + (n - 2)) ∷ k (j + (n - 1)) ∷ k j ∷ k (j + 1) ∷ k (j + 2) ∷ pos w.near ∷ pos w.far ∷ []) refl)

  -- the edge may be taken as the ring's start
  pub virtual_turned : virtual_z w n (λ (d : ℕ). l (j + d)) (λ (d : ℕ). k (j + d)) 0 ≡ virtual_z w n l k j
  unfolding virtual_z
  virtual_turned =
      rw (zero-add (n - 1), zero-add (n - 2), add-zero j)
      (ap₂ (λ (s t : ℤ). formula_z w n s t (l (j + (n - 1))) (l j) (l (j + 1)) (k (j + (n - 2))) (k (j + (n - 1))) (k j) (k (j + 1))) (sum_turned n l rl j) (sum_turned n k rk j))

-- it is additive in the ring, and constant on constants
pub virtual-sub : (w : Weights) (n : ℕ) (l k l' k' : ℕ → ℤ) (j : ℕ)
    → virtual_z w n (λ (d : ℕ). l d -ℤ l' d) (λ (d : ℕ). k d -ℤ k' d) j ≡ virtual_z w n l k j -ℤ virtual_z w n l' k' j
unfolding virtual_z
virtual-sub w n l k l' k' j =
    let i₁ : ℕ = j + (n - 1) in
    let i₂ : ℕ = j + (n - 2) in
    ap₂ (λ (s t : ℤ). formula_z w n s t (l i₁ -ℤ l' i₁) (l j -ℤ l' j) (l (j + 1) -ℤ l' (j + 1)) (k i₂ -ℤ k' i₂) (k i₁ -ℤ k' i₁) (k j -ℤ k' j) (k (j + 1) -ℤ k' (j + 1))) (sum-sub n l l') (sum-sub n k k')
    ∙ same
    (formula (var 0) (var 1) (var 2) (var 3 ⊟ var 12) (var 4 ⊟ var 13) (var 5 ⊟ var 14) (var 6 ⊟ var 15) (var 7 ⊟ var 16) (var 8 ⊟ var 17) (var 9 ⊟ var 18) (var 10 ⊟ var 19) (var 11 ⊟ var 20))
    (formula (var 0) (var 1) (var 2) (var 3) (var 4) (var 5) (var 6) (var 7) (var 8) (var 9) (var 10) (var 11)
    ⊟ formula (var 0) (var 1) (var 2) (var 12) (var 13) (var 14) (var 15) (var 16) (var 17) (var 18) (var 19) (var 20))
    (pos w.near ∷ pos w.far ∷ pos n
    ∷ sum n l ∷ sum n k ∷ l i₁ ∷ l j ∷ l (j + 1) ∷ k i₂ ∷ k i₁ ∷ k j ∷ k (j + 1)
    ∷ sum n l' ∷ sum n k' ∷ l' i₁ ∷ l' j ∷ l' (j + 1) ∷ k' i₂ ∷ k' i₁ ∷ k' j ∷ k' (j + 1) ∷ []) refl

pub virtual_constant : (w : Weights) (n : ℕ) (c : ℤ) (j : ℕ) → virtual_z w n (λ (d : ℕ). c) (λ (d : ℕ). c) j ≡ pos (w.near * n) *ℤ c
unfolding virtual_z
virtual_constant w n c j =
    ap (λ (s : ℤ). formula_z w n s s c c c c c c c) (sum_const n c)
    ∙ same (formula (var 0) (var 1) (var 2) (var 2 ⊠ var 3) (var 2 ⊠ var 3) (var 3) (var 3) (var 3) (var 3) (var 3) (var 3) (var 3)) (var 0 ⊠ var 2 ⊠ var 3) (pos w.near ∷ pos w.far ∷ pos n ∷ c ∷ []) refl

-- the weights sum to near · n, the denominator
pub weights_sum : (w : Weights) (n : ℕ) → 3 ≤ n → sum n (λ (d : ℕ). weight_l w n d +ℤ weight_k w n d) ≡ pos (w.near * n)
weights_sum w n h =
    let u : ℕ → ℤ = λ d. pos 1 in
    let r : Periodic n u = record { again = λ i. refl } in
    sum_cong n (λ (d : ℕ). weight_l w n d +ℤ weight_k w n d) (λ (d : ℕ). weight_l w n d *ℤ pos 1 +ℤ weight_k w n d *ℤ pos 1)
    (λ d l. same (var 0 ⊞ var 1) (var 0 ⊠ lit (pos 1) ⊞ var 1 ⊠ lit (pos 1)) (weight_l w n d ∷ weight_k w n d ∷ []) refl)
    ∙ sym (virtual_weighted w n u u r r 0 h)
    ∙ virtual_constant w n (pos 1) 0
    ∙ same (var 0 ⊠ lit (pos 1)) (var 0) (pos (w.near * n) ∷ []) refl

-- at valence 4 it is the neighbour straight across
pub virtual-across : (w : Weights) (l k : ℕ → ℤ) → Periodic 4 l → Periodic 4 k → (j : ℕ) → virtual_z w 4 l k j ≡ pos (w.near * 4) *ℤ l (j + 2)
unfolding virtual_z sum
virtual-across w l k rl rk j =
    let z : (f : ℕ → ℤ) → sum 4 (λ (d : ℕ). f (j + d)) ≡ pos 0 +ℤ f j +ℤ f (j + 1) +ℤ f (j + 2) +ℤ f (j + 3) = λ f. rw (add-zero j) in
    ap₂ (λ (s t : ℤ). formula_z w 4 s t (l (j + 3)) (l j) (l (j + 1)) (k (j + 2)) (k (j + 3)) (k j) (k (j + 1))) (sym (sum_turned 4 l rl j) ∙ z l) (sym (sum_turned 4 k rk j) ∙ z k)
    ∙ same (formula (var 8) (var 9) (lit (pos 4)) (lit (pos 0) ⊞ var 0 ⊞ var 1 ⊞ var 2 ⊞ var 3) (lit (pos 0) ⊞ var 4 ⊞ var 5 ⊞ var 6 ⊞ var 7) (var 3) (var 0) (var 1) (var 6) (var 7) (var 4) (var 5))
    (var 8 ⊠ lit (pos 4) ⊠ var 2)
    (l j ∷ l (j + 1) ∷ l (j + 2) ∷ l (j + 3) ∷ k j ∷ k (j + 1) ∷ k (j + 2) ∷ k (j + 3) ∷ pos w.near ∷ pos w.far ∷ []) refl
