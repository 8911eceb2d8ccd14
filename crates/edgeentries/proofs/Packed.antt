-- Laws of packed integers. Assumes nothing.
use mathlib.Core.Path.{◌≡◌, ap, ap₂, ◌∙◌, subst⁻¹}
use mathlib.Core.Logic.{◌⊎◌, inl, inr}
use mathlib.Core.List.{List, [], ◌∷◌}
use Prim.Native.Nat.{ℕ, ◌+◌, ◌*◌, ◌/◌, ◌%◌, ◌^◌, ◌≤◌, ◌<◌}
use native.Mathlib.Omega.{arith}
use lib.Dec.{T}
use lib.IntN.{ℤ, pos, nat_abs, ◌+ℤ◌, ◌-ℤ◌}
use lib.Signed.{non_neg, yes_non_neg, pos-nat_abs}
use lib.ListN.{length, get_or, set, length-set}
use lib.Seq.{get_or-set_same, get_or-set_other}
use mir.Syntax.{w64}
use mir.Val.{SFits}
use Rattle.integers.proofs.Linear.{at, whole, ◌⊕◌, ◌⊖◌}
use Rattle.integers.proofs.Order.{eq_by, le_by, abs_by, of_abs}
use Rattle.integers.proofs.AbsoluteValue.{abs-add}
use Rattle.integers.proofs.Range.{fits_abs}
use Rattle.edgeentries.specs.Packed.{biased, low_half, high_half, joined, biased_at, packed_at, put, put_three, Holds}

-- ---- adding 2^56 + 2^31 and taking it away
pub bias_natural : (z : ℤ) → nat_abs z < 2 ^ 55 → T (non_neg (z +ℤ pos 72057596185411584))
bias_natural z h =
    let a = of_abs z in
    yes_non_neg (le_by (whole (pos 0)) (at 0 ⊕ whole (pos 72057596185411584)) (z ∷ []) (omega arith))

pub bias_fits : (z : ℤ) → nat_abs z < 2 ^ 55 → SFits w64 (z +ℤ pos 72057596185411584)
bias_fits z h = let a = abs-add z (pos 72057596185411584) in fits_abs w64 (z +ℤ pos 72057596185411584) (omega arith)

biased-lt : (z : ℤ) → nat_abs z < 2 ^ 55 → biased z < 2 ^ 63
unfolding biased
biased-lt z h = let a = abs-add z (pos 72057596185411584) in omega arith

high_lt : (z : ℤ) → nat_abs z < 2 ^ 55 → high_half z < 2 ^ 31
unfolding high_half
high_lt z h = let a = biased-lt z h in omega arith

natural_fits : (b : ℕ) → b < 2 ^ 63 → SFits w64 (pos b -ℤ pos 72057596185411584)
natural_fits b h = let a = abs_by (whole (pos b) ⊖ whole (pos 72057596185411584)) [] 9223372036854775807 (omega arith) (omega arith) in fits_abs w64 (pos b -ℤ pos 72057596185411584) (omega arith)

-- packing and back
joined_halves : (z : ℤ) → nat_abs z < 2 ^ 55 → joined (low_half z) (high_half z) ≡ z
unfolding joined low_half high_half biased
joined_halves z h =
    let b : ℕ = nat_abs (z +ℤ pos 72057596185411584) in
    let e : b / 4294967296 * 4294967296 + b % 4294967296 ≡ b = omega arith in
    ap (λ (k : ℕ). pos k -ℤ pos 72057596185411584) e
    ∙ ap (λ (y : ℤ). y -ℤ pos 72057596185411584) (pos-nat_abs (z +ℤ pos 72057596185411584) (bias_natural z h))
    ∙ eq_by (at 0 ⊕ whole (pos 72057596185411584) ⊖ whole (pos 72057596185411584)) (at 0) (z ∷ []) (omega arith)

-- ---- numbers in a table
pub unbiased_fits : (w : List ℕ) (i : ℕ) (z : ℤ) → z ≡ biased_at w i → nat_abs z < 2 ^ 63 → SFits w64 (z -ℤ pos 72057596185411584)
unfolding biased_at
unbiased_fits w i z e h =
    let k = ap nat_abs e in
    let b : get_or w (i + 1) 0 * 4294967296 + get_or w i 0 < 2 ^ 63 = omega arith in
    subst⁻¹ (λ (y : ℤ). SFits w64 (y -ℤ pos 72057596185411584)) e (natural_fits (get_or w (i + 1) 0 * 4294967296 + get_or w i 0) b)

pub unbiased_packed : (w : List ℕ) (i : ℕ) (z : ℤ) → z ≡ biased_at w i → z -ℤ pos 72057596185411584 ≡ packed_at w i
unfolding biased_at packed_at joined
unbiased_packed w i z e = ap (λ (y : ℤ). y -ℤ pos 72057596185411584) e

pub biased_packed : (w : List ℕ) (i : ℕ) → biased_at w i ≡ packed_at w i +ℤ pos 72057596185411584
unfolding biased_at packed_at joined
biased_packed w i = let b = get_or w (i + 1) 0 * 4294967296 + get_or w i 0 in eq_by (at 0) (at 0 ⊖ whole (pos 72057596185411584) ⊕ whole (pos 72057596185411584)) (pos b ∷ []) (omega arith)

pub holds_value : (w : List ℕ) (i : ℕ) (z : ℤ) → Holds w i z → packed_at w i ≡ z
unfolding packed_at
holds_value w i z k = ap₂ joined k.low k.high ∙ joined_halves z k.small

pub holds_high : (w : List ℕ) (i : ℕ) (z : ℤ) → Holds w i z → get_or w (i + 1) 0 < 2 ^ 31
holds_high w i z k = let a = high_lt z k.small in let e = k.high in omega arith

-- where both of its numbers stay, so does what they hold
pub holds_kept : (w w' : List ℕ) (i : ℕ) (z : ℤ) → get_or w' i 0 ≡ get_or w i 0 → get_or w' (i + 1) 0 ≡ get_or w (i + 1) 0 → Holds w i z → Holds w' i z
holds_kept w w' i z a b k = record { low = a ∙ k.low; high = b ∙ k.high; small = k.small }

pub put_is : (w : List ℕ) (i : ℕ) (z : ℤ) (u : ℕ) → u ≡ biased z → set (set w i (u % 4294967296)) (i + 1) (u / 4294967296) ≡ put w i z
unfolding put low_half high_half
put_is w i z u e = ap (λ (k : ℕ). set (set w i (k % 4294967296)) (i + 1) (k / 4294967296)) e

pub put_three_is : (w w₁ w₂ w₃ : List ℕ) (i : ℕ) (x y z : ℤ) → w₁ ≡ put w i x → w₂ ≡ put w₁ (i + 2) y → w₃ ≡ put w₂ (i + 4) z → w₃ ≡ put_three w i x y z
unfolding put_three
put_three_is w w₁ w₂ w₃ i x y z e₁ e₂ e₃ = e₃ ∙ ap (λ (t : List ℕ). put t (i + 4) z) (e₂ ∙ ap (λ (t : List ℕ). put t (i + 2) y) e₁)

length-put : (w : List ℕ) (i : ℕ) (z : ℤ) → length (put w i z) ≡ length w
unfolding put
length-put w i z = simp length-set

put_other : (w : List ℕ) (i j : ℕ) (z : ℤ) → ((j ≡ i) → ⊥) → ((j ≡ i + 1) → ⊥) → get_or (put w i z) j 0 ≡ get_or w j 0
unfolding put
put_other w i j z a b =
    get_or-set_other (set w i (low_half z)) (i + 1) j (high_half z) 0 b
    ∙ get_or-set_other w i j (low_half z) 0 a

put_holds : (w : List ℕ) (i : ℕ) (z : ℤ) → i + 2 ≤ length w → nat_abs z < 2 ^ 55 → Holds (put w i z) i z
unfolding put
put_holds w i z h s =
    let l = length-set w i (low_half z) in
    record {
      low = get_or-set_other (set w i (low_half z)) (i + 1) i (high_half z) 0 (λ e. omega arith) ∙ get_or-set_same w i (low_half z) 0 (omega arith);
      high = get_or-set_same (set w i (low_half z)) (i + 1) (high_half z) 0 (omega arith);
      small = s;
    }

put_kept : (w : List ℕ) (i j : ℕ) (x z : ℤ) → (j + 2 ≤ i) ⊎ (i + 2 ≤ j) → Holds w j x → Holds (put w i z) j x
put_kept w i j x z (inl h) k = holds_kept w (put w i z) j x (put_other w i j z (λ e. omega arith) (λ e. omega arith)) (put_other w i (j + 1) z (λ e. omega arith) (λ e. omega arith)) k
put_kept w i j x z (inr h) k = holds_kept w (put w i z) j x (put_other w i j z (λ e. omega arith) (λ e. omega arith)) (put_other w i (j + 1) z (λ e. omega arith) (λ e. omega arith)) k

-- ---- three numbers from place i on
module _ (w : List ℕ) (i : ℕ) (x y z : ℤ) where
  pub length-put_three : length (put_three w i x y z) ≡ length w
  unfolding put_three
  length-put_three = length-put (put (put w i x) (i + 2) y) (i + 4) z ∙ length-put (put w i x) (i + 2) y ∙ length-put w i x

  pub put_three_other : (j : ℕ) → (j < i) ⊎ (i + 6 ≤ j) → get_or (put_three w i x y z) j 0 ≡ get_or w j 0
  unfolding put_three
  put_three_other j (inl h) =
      put_other (put (put w i x) (i + 2) y) (i + 4) j z (λ e. omega arith) (λ e. omega arith)
      ∙ put_other (put w i x) (i + 2) j y (λ e. omega arith) (λ e. omega arith)
      ∙ put_other w i j x (λ e. omega arith) (λ e. omega arith)
  put_three_other j (inr h) =
      put_other (put (put w i x) (i + 2) y) (i + 4) j z (λ e. omega arith) (λ e. omega arith)
      ∙ put_other (put w i x) (i + 2) j y (λ e. omega arith) (λ e. omega arith)
      ∙ put_other w i j x (λ e. omega arith) (λ e. omega arith)

  module _ (room : i + 6 ≤ length w) where
    pub put_three_first : nat_abs x < 2 ^ 55 → Holds (put_three w i x y z) i x
    unfolding put_three
    put_three_first s = put_kept (put (put w i x) (i + 2) y) (i + 4) i x z (inl (omega arith)) (put_kept (put w i x) (i + 2) i x y (inl (omega arith)) (put_holds w i x (omega arith) s))

    pub put_three_second : nat_abs y < 2 ^ 55 → Holds (put_three w i x y z) (i + 2) y
    unfolding put_three
    put_three_second s =
        let l = length-put w i x in
        put_kept (put (put w i x) (i + 2) y) (i + 4) (i + 2) y z (inl (omega arith)) (put_holds (put w i x) (i + 2) y (omega arith) s)

    pub put_three_third : nat_abs z < 2 ^ 55 → Holds (put_three w i x y z) (i + 4) z
    unfolding put_three
    put_three_third s =
        let l = length-put w i x in
        let m = length-put (put w i x) (i + 2) y in
        put_holds (put (put w i x) (i + 2) y) (i + 4) z (omega arith) s
