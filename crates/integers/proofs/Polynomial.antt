-- Polynomial identities over ℤ by computation. `Poly` is an expression over numbered unknowns, with products. Its normal form is a list of terms, each a
-- coefficient and a monomial, which is the sorted list of its unknowns. Two expressions with one normal form have one value: `same e f ρ refl`.
-- Assumes nothing.
use mathlib.Core.Path.{◌≡◌, refl, sym, ap, ap₂, ◌∙◌}
use mathlib.Core.Bool.{Bool, true, false, cond, ◌&&◌}
use mathlib.Core.List.{List, [], ◌∷◌}
use Prim.Native.Nat.{ℕ}
use lib.Dec.{T, eqb, ltb, leb, eqb→eq}
use lib.IntN.{ℤ, pos, negsuc, neg_ℤ, ◌+ℤ◌, ◌-ℤ◌, ◌*ℤ◌, +ℤ_idl, +ℤ_idr, +ℤ_assoc, zero-*ℤ, *ℤ-zero, *ℤ_comm}
use Rattle.integers.proofs.Ring.{+ℤ_left, *ℤ_dist, dist_*ℤ, neg_*ℤ, *ℤ_assoc, *ℤ_left, *ℤ_swap, one_*ℤ}
use Rattle.integers.proofs.Linear.{nth}
use Rattle.lists.proofs.Table.{both_parts, eq_z, eqZ→eq}

infixl 6 ◌⊞◌
infixl 6 ◌⊟◌
infixl 7 ◌⊠◌
pub data Poly : Type 0 where
  var : ℕ → Poly
  lit : ℤ → Poly
  ◌⊞◌ : Poly → Poly → Poly
  ◌⊟◌ : Poly → Poly → Poly
  ◌⊠◌ : Poly → Poly → Poly

abbrev pub value : Poly → List ℤ → ℤ
value (var i) ρ = nth ρ i
value (lit k) ρ = k
value (a ⊞ b) ρ = value a ρ +ℤ value b ρ
value (a ⊟ b) ρ = value a ρ -ℤ value b ρ
value (a ⊠ b) ρ = value a ρ *ℤ value b ρ

-- ---- monomials
abbrev pub ev_m : List ℕ → List ℤ → ℤ
ev_m [] ρ = pos 1
ev_m (i ∷ m) ρ = nth ρ i *ℤ ev_m m ρ

abbrev pub ins_v : Bool → ℕ → ℕ → List ℕ → List ℕ → List ℕ
ins_v true i j m r = i ∷ j ∷ m
ins_v false i j m r = j ∷ r

abbrev pub ins_m : ℕ → List ℕ → List ℕ
ins_m i [] = i ∷ []
ins_m i (j ∷ m) = let r = ins_m i m in ins_v (leb i j) i j m r

abbrev pub mul_m : List ℕ → List ℕ → List ℕ
mul_m [] n = n
mul_m (i ∷ m) n = ins_m i (mul_m m n)

ins_v_ev : (t : Bool) (i j : ℕ) (m r : List ℕ) (ρ : List ℤ) → ev_m r ρ ≡ nth ρ i *ℤ ev_m m ρ → ev_m (ins_v t i j m r) ρ ≡ nth ρ i *ℤ (nth ρ j *ℤ ev_m m ρ)
ins_v_ev true i j m r ρ h = refl
ins_v_ev false i j m r ρ h = ap (λ (t : ℤ). nth ρ j *ℤ t) h ∙ *ℤ_left (nth ρ j) (nth ρ i) (ev_m m ρ)

ins_m_ev : (i : ℕ) (m : List ℕ) (ρ : List ℤ) → ev_m (ins_m i m) ρ ≡ nth ρ i *ℤ ev_m m ρ
ins_m_ev i [] ρ = refl
ins_m_ev i (j ∷ m) ρ = ins_v_ev (leb i j) i j m (ins_m i m) ρ (ins_m_ev i m ρ)

mul_m_ev : (m n : List ℕ) (ρ : List ℤ) → ev_m (mul_m m n) ρ ≡ ev_m m ρ *ℤ ev_m n ρ
mul_m_ev [] n ρ = sym (one_*ℤ (ev_m n ρ))
mul_m_ev (i ∷ m) n ρ = ins_m_ev i (mul_m m n) ρ ∙ ap (λ (t : ℤ). nth ρ i *ℤ t) (mul_m_ev m n ρ) ∙ sym (*ℤ_assoc (nth ρ i) (ev_m m ρ) (ev_m n ρ))

abbrev pub eq_l : List ℕ → List ℕ → Bool
eq_l [] [] = true
eq_l [] (j ∷ n) = false
eq_l (i ∷ m) [] = false
eq_l (i ∷ m) (j ∷ n) = eqb i j && eq_l m n

eqL→eq : (m n : List ℕ) → T (eq_l m n) → m ≡ n
eqL→eq [] [] t = refl
eqL→eq [] (j ∷ n) t = absurd t
eqL→eq (i ∷ m) [] t = absurd t
eqL→eq (i ∷ m) (j ∷ n) t = let h = both_parts (eqb i j) (eq_l m n) t in ap₂ ◌∷◌ (eqb→eq i j h.0) (eqL→eq m n h.1)

-- a shorter one first, and of two of one length the one whose first difference is lower; nothing rests on it
abbrev pub lt_l : List ℕ → List ℕ → Bool
lt_l [] [] = false
lt_l [] (j ∷ n) = true
lt_l (i ∷ m) [] = false
lt_l (i ∷ m) (j ∷ n) = cond (eqb i j) (lt_l m n) (ltb i j)

-- ---- sums of terms
pub data Terms : Type 0 where
  nil : Terms
  term : ℤ → List ℕ → Terms → Terms

abbrev pub ev : Terms → List ℤ → ℤ
ev nil ρ = pos 0
ev (term c m p) ρ = c *ℤ ev_m m ρ +ℤ ev p ρ

abbrev pub step : Bool → Bool → ℤ → List ℕ → ℤ → List ℕ → Terms → Terms → Terms
step true t c m d n p r = term (c +ℤ d) n p
step false true c m d n p r = term c m (term d n p)
step false false c m d n p r = term d n r

abbrev pub ins : ℤ → List ℕ → Terms → Terms
ins c m nil = term c m nil
ins c m (term d n p) = let r = ins c m p in step (eq_l m n) (lt_l m n) c m d n p r

step_ev : (s t : Bool) (c : ℤ) (m : List ℕ) (d : ℤ) (n : List ℕ) (p r : Terms) (ρ : List ℤ) → (T s → m ≡ n) → ev r ρ ≡ c *ℤ ev_m m ρ +ℤ ev p ρ →
    ev (step s t c m d n p r) ρ ≡ c *ℤ ev_m m ρ +ℤ (d *ℤ ev_m n ρ +ℤ ev p ρ)
step_ev true t c m d n p r ρ h k =
    ap (λ (t : ℤ). t +ℤ ev p ρ) (dist_*ℤ c d (ev_m n ρ) ∙ ap (λ (l : List ℕ). c *ℤ ev_m l ρ +ℤ d *ℤ ev_m n ρ) (sym (h tt))) ∙ +ℤ_assoc (c *ℤ ev_m m ρ) (d *ℤ ev_m n ρ) (ev p ρ)
step_ev false true c m d n p r ρ h k = refl
step_ev false false c m d n p r ρ h k = ap (λ (t : ℤ). d *ℤ ev_m n ρ +ℤ t) k ∙ +ℤ_left (d *ℤ ev_m n ρ) (c *ℤ ev_m m ρ) (ev p ρ)

ins_ev : (c : ℤ) (m : List ℕ) (p : Terms) (ρ : List ℤ) → ev (ins c m p) ρ ≡ c *ℤ ev_m m ρ +ℤ ev p ρ
ins_ev c m nil ρ = refl
ins_ev c m (term d n p) ρ = step_ev (eq_l m n) (lt_l m n) c m d n p (ins c m p) ρ (eqL→eq m n) (ins_ev c m p ρ)

abbrev pub add : Terms → Terms → Terms
add nil q = q
add (term c m p) q = ins c m (add p q)

add_ev : (p q : Terms) (ρ : List ℤ) → ev (add p q) ρ ≡ ev p ρ +ℤ ev q ρ
add_ev nil q ρ = sym (+ℤ_idl (ev q ρ))
add_ev (term c m p) q ρ = ins_ev c m (add p q) ρ ∙ ap (λ (t : ℤ). c *ℤ ev_m m ρ +ℤ t) (add_ev p q ρ) ∙ sym (+ℤ_assoc (c *ℤ ev_m m ρ) (ev p ρ) (ev q ρ))

-- a term times a sum
abbrev pub scale : ℤ → List ℕ → Terms → Terms
scale c m nil = nil
scale c m (term d n p) = ins (c *ℤ d) (mul_m m n) (scale c m p)

scale_ev : (c : ℤ) (m : List ℕ) (p : Terms) (ρ : List ℤ) → ev (scale c m p) ρ ≡ (c *ℤ ev_m m ρ) *ℤ ev p ρ
scale_ev c m nil ρ = sym (*ℤ-zero (c *ℤ ev_m m ρ))
scale_ev c m (term d n p) ρ =
    ins_ev (c *ℤ d) (mul_m m n) (scale c m p) ρ
    ∙ ap₂ ◌+ℤ◌ (ap (λ (t : ℤ). (c *ℤ d) *ℤ t) (mul_m_ev m n ρ) ∙ *ℤ_swap c d (ev_m m ρ) (ev_m n ρ)) (scale_ev c m p ρ)
    ∙ sym (*ℤ_dist (c *ℤ ev_m m ρ) (d *ℤ ev_m n ρ) (ev p ρ))

abbrev pub mul : Terms → Terms → Terms
mul nil q = nil
mul (term c m p) q = add (scale c m q) (mul p q)

mul_ev : (p q : Terms) (ρ : List ℤ) → ev (mul p q) ρ ≡ ev p ρ *ℤ ev q ρ
mul_ev nil q ρ = sym (zero-*ℤ (ev q ρ))
mul_ev (term c m p) q ρ = add_ev (scale c m q) (mul p q) ρ ∙ ap₂ ◌+ℤ◌ (scale_ev c m q ρ) (mul_ev p q ρ) ∙ sym (dist_*ℤ (c *ℤ ev_m m ρ) (ev p ρ) (ev q ρ))

-- terms that have come to nothing
abbrev pub keep : Bool → ℤ → List ℕ → Terms → Terms
keep true c m p = p
keep false c m p = term c m p

abbrev pub clean : Terms → Terms
clean nil = nil
clean (term c m p) = keep (eq_z c (pos 0)) c m (clean p)

keep_ev : (t : Bool) (c : ℤ) (m : List ℕ) (p : Terms) (ρ : List ℤ) → (T t → c ≡ pos 0) → ev (keep t c m p) ρ ≡ c *ℤ ev_m m ρ +ℤ ev p ρ
keep_ev true c m p ρ h = sym (ap (λ (t : ℤ). t *ℤ ev_m m ρ +ℤ ev p ρ) (h tt) ∙ ap (λ (t : ℤ). t +ℤ ev p ρ) (zero-*ℤ (ev_m m ρ)) ∙ +ℤ_idl (ev p ρ))
keep_ev false c m p ρ h = refl

clean_ev : (p : Terms) (ρ : List ℤ) → ev (clean p) ρ ≡ ev p ρ
clean_ev nil ρ = refl
clean_ev (term c m p) ρ = keep_ev (eq_z c (pos 0)) c m (clean p) ρ (eqZ→eq c (pos 0)) ∙ ap (λ (t : ℤ). c *ℤ ev_m m ρ +ℤ t) (clean_ev p ρ)

-- ---- the normal form
abbrev pub norm : Poly → Terms
norm (var i) = term (pos 1) (i ∷ []) nil
norm (lit k) = term k [] nil
norm (a ⊞ b) = add (norm a) (norm b)
norm (a ⊟ b) = add (norm a) (scale (negsuc 0) [] (norm b))
norm (a ⊠ b) = mul (norm a) (norm b)

norm_sound : (e : Poly) (ρ : List ℤ) → value e ρ ≡ ev (norm e) ρ
norm_sound (var i) ρ = sym (+ℤ_idr (pos 1 *ℤ (nth ρ i *ℤ pos 1)) ∙ one_*ℤ (nth ρ i *ℤ pos 1) ∙ *ℤ_comm (nth ρ i) (pos 1) ∙ one_*ℤ (nth ρ i))
norm_sound (lit k) ρ = sym (+ℤ_idr (k *ℤ pos 1) ∙ *ℤ_comm k (pos 1) ∙ one_*ℤ k)
norm_sound (a ⊞ b) ρ = ap₂ ◌+ℤ◌ (norm_sound a ρ) (norm_sound b ρ) ∙ sym (add_ev (norm a) (norm b) ρ)
norm_sound (a ⊟ b) ρ =
    ap₂ ◌-ℤ◌ (norm_sound a ρ) (norm_sound b ρ)
    ∙ ap (λ (t : ℤ). ev (norm a) ρ +ℤ t) (sym (scale_ev (negsuc 0) [] (norm b) ρ ∙ neg_*ℤ (pos 1) (ev (norm b) ρ) ∙ ap neg_ℤ (one_*ℤ (ev (norm b) ρ))))
    ∙ sym (add_ev (norm a) (scale (negsuc 0) [] (norm b)) ρ)
norm_sound (a ⊠ b) ρ = ap₂ ◌*ℤ◌ (norm_sound a ρ) (norm_sound b ρ) ∙ sym (mul_ev (norm a) (norm b) ρ)

pub same : (e f : Poly) (ρ : List ℤ) → clean (norm e) ≡ clean (norm f) → value e ρ ≡ value f ρ
same e f ρ h =
    norm_sound e ρ ∙ sym (clean_ev (norm e) ρ) ∙ ap (λ (p : Terms). ev p ρ) h ∙ clean_ev (norm f) ρ ∙ sym (norm_sound f ρ)
