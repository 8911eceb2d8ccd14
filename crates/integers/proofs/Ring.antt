-- The ring laws of ℤ that the library leaves out: the product distributes over the sum, and is associative. Assumes nothing.
use mathlib.Core.Path.{◌≡◌, sym, ap, ap₂, ◌∙◌, subst}
use Prim.Native.Nat.{ℕ, zero, suc}
use lib.IntN.{ℤ, pos, neg_ℤ, suc_ℤ, pred_ℤ, ◌+ℤ◌, ◌*ℤ◌, ℤ_ind, +ℤ_assoc, +ℤ_comm, +ℤ_idl, +ℤ_idr, +ℤ_one, -ℤ_one, suc_ℤ-*ℤ, pred_ℤ-*ℤ, zero-*ℤ, *ℤ_comm, neg_ℤ-+ℤ, +ℤ_invr, +ℤ_invl, one, *ℤ-one}

pub +ℤ_left : (a b c : ℤ) → a +ℤ (b +ℤ c) ≡ b +ℤ (a +ℤ c)
+ℤ_left a b c = sym (+ℤ_assoc a b c) ∙ ap (λ (t : ℤ). t +ℤ c) (+ℤ_comm a b) ∙ +ℤ_assoc b a c

pub +ℤ_swap : (a b c d : ℤ) → (a +ℤ b) +ℤ (c +ℤ d) ≡ (a +ℤ c) +ℤ (b +ℤ d)
+ℤ_swap a b c d = +ℤ_assoc a b (c +ℤ d) ∙ ap (λ (t : ℤ). a +ℤ t) (+ℤ_left b c d) ∙ sym (+ℤ_assoc a c (b +ℤ d))

pub *ℤ_dist : (k x y : ℤ) → k *ℤ (x +ℤ y) ≡ k *ℤ x +ℤ k *ℤ y
*ℤ_dist k x y = ℤ_ind P base up down k
  where
    P : ℤ → Type 0
    P m = m *ℤ (x +ℤ y) ≡ m *ℤ x +ℤ m *ℤ y

    base : P (pos zero)
    base = zero-*ℤ (x +ℤ y) ∙ sym (ap₂ ◌+ℤ◌ (zero-*ℤ x) (zero-*ℤ y))

    more : (m : ℤ) → P m → P (suc_ℤ m)
    more m h = suc_ℤ-*ℤ m (x +ℤ y) ∙ ap (λ (t : ℤ). t +ℤ (x +ℤ y)) h ∙ +ℤ_swap (m *ℤ x) (m *ℤ y) x y ∙ sym (ap₂ ◌+ℤ◌ (suc_ℤ-*ℤ m x) (suc_ℤ-*ℤ m y))

    less : (m : ℤ) → P m → P (pred_ℤ m)
    less m h = pred_ℤ-*ℤ m (x +ℤ y) ∙ ap₂ ◌+ℤ◌ h (neg_ℤ-+ℤ x y) ∙ +ℤ_swap (m *ℤ x) (m *ℤ y) (neg_ℤ x) (neg_ℤ y) ∙ sym (ap₂ ◌+ℤ◌ (pred_ℤ-*ℤ m x) (pred_ℤ-*ℤ m y))

    up : (n : ℕ) → P (pos n) → P (pos n +ℤ pos (suc zero))
    up n h = subst P (sym (+ℤ_one (pos n))) (more (pos n) h)

    down : (n : ℕ) → P (neg_ℤ (pos n)) → P (neg_ℤ (pos n) +ℤ neg_ℤ (pos (suc zero)))
    down n h = subst P (sym (-ℤ_one (neg_ℤ (pos n)))) (less (neg_ℤ (pos n)) h)

pub dist_*ℤ : (x y k : ℤ) → (x +ℤ y) *ℤ k ≡ x *ℤ k +ℤ y *ℤ k
dist_*ℤ x y k = *ℤ_comm (x +ℤ y) k ∙ *ℤ_dist k x y ∙ ap₂ ◌+ℤ◌ (*ℤ_comm k x) (*ℤ_comm k y)

-- what adds to zero with x is the negation of x
neg_unique : (x y : ℤ) → x +ℤ y ≡ pos zero → y ≡ neg_ℤ x
neg_unique x y h = sym (+ℤ_idl y) ∙ ap (λ (t : ℤ). t +ℤ y) (sym (+ℤ_invl x)) ∙ +ℤ_assoc (neg_ℤ x) x y ∙ ap (λ (t : ℤ). neg_ℤ x +ℤ t) h ∙ +ℤ_idr (neg_ℤ x)

pub neg_*ℤ : (x k : ℤ) → neg_ℤ x *ℤ k ≡ neg_ℤ (x *ℤ k)
neg_*ℤ x k = neg_unique (x *ℤ k) (neg_ℤ x *ℤ k) (sym (dist_*ℤ x (neg_ℤ x) k) ∙ ap (λ (t : ℤ). t *ℤ k) (+ℤ_invr x) ∙ zero-*ℤ k)

pub *ℤ_assoc : (a b c : ℤ) → (a *ℤ b) *ℤ c ≡ a *ℤ (b *ℤ c)
*ℤ_assoc a b c = ℤ_ind P base up down a
  where
    P : ℤ → Type 0
    P m = (m *ℤ b) *ℤ c ≡ m *ℤ (b *ℤ c)

    base : P (pos zero)
    base = ap (λ (t : ℤ). t *ℤ c) (zero-*ℤ b) ∙ zero-*ℤ c ∙ sym (zero-*ℤ (b *ℤ c))

    more : (m : ℤ) → P m → P (suc_ℤ m)
    more m h = ap (λ (t : ℤ). t *ℤ c) (suc_ℤ-*ℤ m b) ∙ dist_*ℤ (m *ℤ b) b c ∙ ap (λ (t : ℤ). t +ℤ b *ℤ c) h ∙ sym (suc_ℤ-*ℤ m (b *ℤ c))

    less : (m : ℤ) → P m → P (pred_ℤ m)
    less m h = ap (λ (t : ℤ). t *ℤ c) (pred_ℤ-*ℤ m b) ∙ dist_*ℤ (m *ℤ b) (neg_ℤ b) c ∙ ap₂ ◌+ℤ◌ h (neg_*ℤ b c) ∙ sym (pred_ℤ-*ℤ m (b *ℤ c))

    up : (n : ℕ) → P (pos n) → P (pos n +ℤ pos (suc zero))
    up n h = subst P (sym (+ℤ_one (pos n))) (more (pos n) h)

    down : (n : ℕ) → P (neg_ℤ (pos n)) → P (neg_ℤ (pos n) +ℤ neg_ℤ (pos (suc zero)))
    down n h = subst P (sym (-ℤ_one (neg_ℤ (pos n)))) (less (neg_ℤ (pos n)) h)

pub one_*ℤ : (x : ℤ) → pos 1 *ℤ x ≡ x
unfolding one
one_*ℤ x = *ℤ_comm (pos 1) x ∙ *ℤ-one x

pub *ℤ_left : (a b c : ℤ) → a *ℤ (b *ℤ c) ≡ b *ℤ (a *ℤ c)
*ℤ_left a b c = sym (*ℤ_assoc a b c) ∙ ap (λ (t : ℤ). t *ℤ c) (*ℤ_comm a b) ∙ *ℤ_assoc b a c

pub *ℤ_swap : (a b c d : ℤ) → (a *ℤ b) *ℤ (c *ℤ d) ≡ (a *ℤ c) *ℤ (b *ℤ d)
*ℤ_swap a b c d = *ℤ_assoc a b (c *ℤ d) ∙ ap (λ (t : ℤ). a *ℤ t) (*ℤ_left b c d) ∙ sym (*ℤ_assoc a c (b *ℤ d))
