-- `omega` for the integers. An integer is `up z - dn z`, two naturals that `omega` takes as unknowns. The value of a linear expression is `hi - lo` of it,
-- two sums of naturals that compute. So an equation, an order or a bound of linear expressions over ℤ is one over ℕ:
--     eq-by, le-by, abs-by     the statement over ℤ from the one over ℕ, which is `omega`'s
--     of-abs, of_le            a hypothesis over ℤ as one over ℕ, for `omega`'s list
-- Assumes nothing.
use mathlib.Core.Path.{◌≡◌, refl, sym, ap, ◌∙◌, subst}
use mathlib.Core.Bool.{Bool, true, false, not, cond}
use mathlib.Core.List.{List, [], ◌∷◌}
use Prim.Native.Nat.{ℕ, zero, suc, ◌+◌, ◌*◌, ◌-◌, ◌≤◌, ◌<◌}
use native.Mathlib.Nat.{mul-add, mul-zero}
use native.Mathlib.Omega.{arith}
use lib.Dec.{T, ltb, ltb→lt, nltb→le, le→leb, leb→le}
use lib.IntN.{ℤ, pos, negsuc, neg_ℤ, sub_ℕ, ◌+ℤ◌, ◌-ℤ◌, ◌*ℤ◌, nat_abs}
use lib.Signed.{◌≤ℤ◌, le_z}
use Rattle.integers.proofs.Linear.{Linear, at, whole, ◌⊕◌, ◌⊖◌, ◌⊙◌, value, nth}
use Rattle.integers.proofs.Ring.{neg_*ℤ}

pub up : ℤ → ℕ
up (pos n) = n
up (negsuc n) = 0

pub dn : ℤ → ℕ
dn (pos n) = 0
dn (negsuc n) = suc n

-- z is a - b
abbrev pub Diff : ℤ → ℕ → ℕ → Type 0
Diff z a b = up z + b ≡ dn z + a

diff_self : (z : ℤ) → Diff z (up z) (dn z)
diff_self z = omega arith

diff_cond : (t : Bool) (a b : ℕ) → (T t → a < b) → (T (not t) → b ≤ a) → Diff (cond t (negsuc (b - suc a)) (pos (a - b))) a b
unfolding up dn
diff_cond true a b h k = let l = h tt in omega arith
diff_cond false a b h k = let l = k tt in omega arith

diff_subℕ : (a b : ℕ) → Diff (sub_ℕ a b) a b
diff_subℕ a b = diff_cond (ltb a b) a b (ltb→lt a b) (nltb→le a b)

diff_sum : (x y : ℤ) → Diff (x +ℤ y) (up x + up y) (dn x + dn y)
unfolding up dn
diff_sum (pos a) (pos b) = omega arith
diff_sum (pos a) (negsuc b) = let h = diff_subℕ a (suc b) in omega arith
diff_sum (negsuc a) (pos b) = let h = diff_subℕ b (suc a) in omega arith
diff_sum (negsuc a) (negsuc b) = omega arith

up_neg : (x : ℤ) → up (neg_ℤ x) ≡ dn x
unfolding up dn
up_neg (pos zero) = refl
up_neg (pos (suc n)) = refl
up_neg (negsuc n) = refl

dn_neg : (x : ℤ) → dn (neg_ℤ x) ≡ up x
unfolding up dn
dn_neg (pos zero) = refl
dn_neg (pos (suc n)) = refl
dn_neg (negsuc n) = refl

pub up_mul : (k : ℕ) (x : ℤ) → up (pos k *ℤ x) ≡ k * up x
unfolding up dn
up_mul k (pos n) = refl
up_mul k (negsuc n) = up_neg (pos (k * suc n)) ∙ sym (mul-zero k)

pub dn_mul : (k : ℕ) (x : ℤ) → dn (pos k *ℤ x) ≡ k * dn x
unfolding up dn
dn_mul k (pos n) = sym (mul-zero k)
dn_mul k (negsuc n) = dn_neg (pos (k * suc n))

diff_add : (x y : ℤ) (a b c d : ℕ) → Diff x a b → Diff y c d → Diff (x +ℤ y) (a + c) (b + d)
diff_add x y a b c d h k = let s = diff_sum x y in omega arith

diff_neg : (x : ℤ) (a b : ℕ) → Diff x a b → Diff (neg_ℤ x) b a
diff_neg x a b h = let s = up_neg x in let t = dn_neg x in omega arith

diff_mul : (k : ℕ) (x : ℤ) (a b : ℕ) → Diff x a b → Diff (pos k *ℤ x) (k * a) (k * b)
diff_mul k x a b h =
    ap (λ (t : ℕ). t + k * b) (up_mul k x) ∙ sym (mul-add k (up x) b) ∙ ap (λ (t : ℕ). k * t) h ∙ mul-add k (dn x) a ∙ ap (λ (t : ℕ). t + k * a) (sym (dn_mul k x))

-- ---- the two sums of an expression
abbrev mutual
  hi : Linear → List ℤ → ℕ
  hi (at i) ρ = up (nth ρ i)
  hi (whole (pos n)) ρ = n
  hi (whole (negsuc n)) ρ = 0
  hi (a ⊕ b) ρ = hi a ρ + hi b ρ
  hi (a ⊖ b) ρ = hi a ρ + lo b ρ
  hi (pos k ⊙ a) ρ = k * hi a ρ
  hi (negsuc k ⊙ a) ρ = suc k * lo a ρ

  lo : Linear → List ℤ → ℕ
  lo (at i) ρ = dn (nth ρ i)
  lo (whole (pos n)) ρ = 0
  lo (whole (negsuc n)) ρ = suc n
  lo (a ⊕ b) ρ = lo a ρ + lo b ρ
  lo (a ⊖ b) ρ = lo a ρ + hi b ρ
  lo (pos k ⊙ a) ρ = k * lo a ρ
  lo (negsuc k ⊙ a) ρ = suc k * hi a ρ

pub diff : (e : Linear) (ρ : List ℤ) → Diff (value e ρ) (hi e ρ) (lo e ρ)
unfolding up dn
diff (at i) ρ = diff_self (nth ρ i)
diff (whole (pos n)) ρ = omega arith
diff (whole (negsuc n)) ρ = omega arith
diff (a ⊕ b) ρ = diff_add (value a ρ) (value b ρ) (hi a ρ) (lo a ρ) (hi b ρ) (lo b ρ) (diff a ρ) (diff b ρ)
diff (a ⊖ b) ρ = diff_add (value a ρ) (neg_ℤ (value b ρ)) (hi a ρ) (lo a ρ) (lo b ρ) (hi b ρ) (diff a ρ) (diff_neg (value b ρ) (hi b ρ) (lo b ρ) (diff b ρ))
diff (pos k ⊙ a) ρ = diff_mul k (value a ρ) (hi a ρ) (lo a ρ) (diff a ρ)
diff (negsuc k ⊙ a) ρ = subst (λ (z : ℤ). Diff z (suc k * lo a ρ) (suc k * hi a ρ)) (sym (neg_*ℤ (pos (suc k)) (value a ρ))) (diff_neg (pos (suc k) *ℤ value a ρ) (suc k * hi a ρ) (suc k * lo a ρ) (diff_mul (suc k) (value a ρ) (hi a ρ) (lo a ρ) (diff a ρ)))

-- ---- from ℕ to ℤ and back, at two integers
eq_core : (x y : ℤ) → up x + dn y ≡ up y + dn x → x ≡ y
unfolding up dn
eq_core (pos a) (pos b) h = let e : a ≡ b = omega arith in ap pos e
eq_core (pos a) (negsuc b) h = absurd (omega arith)
eq_core (negsuc a) (pos b) h = absurd (omega arith)
eq_core (negsuc a) (negsuc b) h = let e : a ≡ b = omega arith in ap negsuc e

le_core : (x y : ℤ) → up x + dn y ≤ up y + dn x → T (le_z x y)
unfolding up dn
le_core (pos a) (pos b) h = le→leb a b (omega arith)
le_core (pos a) (negsuc b) h = absurd (omega arith)
le_core (negsuc a) (pos b) h = tt
le_core (negsuc a) (negsuc b) h = le→leb b a (omega arith)

abs_core : (z : ℤ) (B : ℕ) → up z ≤ dn z + B → dn z ≤ up z + B → nat_abs z ≤ B
unfolding up dn
abs_core (pos n) B h k = omega arith
abs_core (negsuc n) B h k = omega arith

pub of_abs : (z : ℤ) → nat_abs z ≡ up z + dn z
unfolding up dn
of_abs (pos n) = omega arith
of_abs (negsuc n) = omega arith

pub of_le : (x y : ℤ) → x ≤ℤ y → up x + dn y ≤ up y + dn x
unfolding up dn
of_le (pos a) (pos b) h = let k = leb→le a b h.le in omega arith
of_le (pos a) (negsuc b) h = absurd h.le
of_le (negsuc a) (pos b) h = omega arith
of_le (negsuc a) (negsuc b) h = let k = leb→le b a h.le in omega arith

-- ---- the same at two expressions
pub eq_by : (e f : Linear) (ρ : List ℤ) → hi e ρ + lo f ρ ≡ hi f ρ + lo e ρ → value e ρ ≡ value f ρ
eq_by e f ρ h = let p = diff e ρ in let q = diff f ρ in eq_core (value e ρ) (value f ρ) (omega arith)

pub le_by : (e f : Linear) (ρ : List ℤ) → hi e ρ + lo f ρ ≤ hi f ρ + lo e ρ → value e ρ ≤ℤ value f ρ
le_by e f ρ h = let p = diff e ρ in let q = diff f ρ in record { le = le_core (value e ρ) (value f ρ) (omega arith) }

pub abs_by : (e : Linear) (ρ : List ℤ) (B : ℕ) → hi e ρ ≤ lo e ρ + B → lo e ρ ≤ hi e ρ + B → nat_abs (value e ρ) ≤ B
abs_by e ρ B h k = let p = diff e ρ in abs_core (value e ρ) B (omega arith) (omega arith)

-- two integers with no distance between them are one
pub eq_of_abs : (x y : ℤ) → nat_abs (x -ℤ y) ≡ 0 → x ≡ y
eq_of_abs x y h =
    let d = diff (at 0 ⊖ at 1) (x ∷ y ∷ []) in
    let e = of_abs (x -ℤ y) in
    eq_by (at 0) (at 1) (x ∷ y ∷ []) (omega arith)
