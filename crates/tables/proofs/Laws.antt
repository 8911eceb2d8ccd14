-- Laws of cleared and filled tables, and of the loops that make them; of tables written over in part. Assumes nothing.
use mathlib.Core.Path.{◌≡◌, refl, sym, ap, ◌∙◌, subst}
use mathlib.Core.List.{List, ◌++◌}
use Prim.Native.Nat.{ℕ, ◌+◌, ◌-◌, ◌≤◌, ◌<◌}
use native.Mathlib.Omega.{arith}
use lib.ListN.{length, get_or, take, drop, set, replicate, length-append, length-drop, length-replicate, get_or-append}
use lib.Seq.{get_or-take, get_or-drop, take_at, drop_at, drop-append-add, drop-drop, take-take, take-set-le, drop-set-lt}
use Rattle.tables.specs.Tables.{filled, cleared, SameOutside}

-- what lies past the cleared part is as found; so clearing again clears what was there before
pub drop-cleared : (n : ℕ) (w : List ℕ) → drop n (cleared n w) ≡ drop n w
unfolding cleared
drop-cleared n w = drop_at (replicate n 0) (drop n w) n (length-replicate {A = ℕ} n 0)

pub cleared_over : (n : ℕ) (w u : List ℕ) → drop n u ≡ drop n w → cleared n u ≡ cleared n w
unfolding cleared
cleared_over n w u e = ap (λ (t : List ℕ). replicate n 0 ++ t) e

-- ---- filled tables
pub length-filled : {A : Type 0} (s d : List A) → length s ≤ length d → length (filled s d) ≡ length d
unfolding filled
length-filled s d h = let a = length-append s (drop (length s) d) in let c = length-drop (length s) d in omega arith

-- the front is what was written
pub take-filled : {A : Type 0} (s d : List A) (n : ℕ) → n ≡ length s → take n (filled s d) ≡ s
unfolding filled
take-filled s d n e = take_at s (drop (length s) d) n (sym e)

pub filled_at : {A : Type 0} (s d : List A) (z : A) (k : ℕ) → k < length s → get_or (filled s d) k z ≡ get_or s k z
unfolding filled
filled_at s d z k h = get_or-append s (drop (length s) d) z k h

-- what lies past the front is as found; so filling again with more writes over it
pub drop-filled : {A : Type 0} (s d : List A) (n : ℕ) → length s ≤ n → drop n (filled s d) ≡ drop n d
unfolding filled
drop-filled s d n h =
    let e : length s + (n - length s) ≡ n = omega arith in
    ap (λ (k : ℕ). drop k (s ++ drop (length s) d)) (sym e) ∙ drop-append-add s (drop (length s) d) (n - length s) ∙ drop-drop (n - length s) (length s) d ∙ ap (λ (k : ℕ). drop k d) e

pub filled_over : {A : Type 0} (s t d : List A) → length s ≤ length t → filled t (filled s d) ≡ filled t d
unfolding filled
filled_over {A} s t d h = ap (λ (x : List A). t ++ x) (drop-filled s d (length t) h)

-- ---- stores from a up to e

pub same_outside : (a e : ℕ) (w : List ℕ) → SameOutside a e w w
same_outside a e w = record { front = refl; rest = refl }

pub outside_set : (a e : ℕ) (w w' : List ℕ) (i x : ℕ) → a ≤ i → i < e → SameOutside a e w w' → SameOutside a e w (set w' i x)
outside_set a e w w' i x h k s = record {
  front = take-set-le a w' i x h ∙ s.front;
  rest = drop-set-lt e w' i x k ∙ s.rest;
}

pub outside_then : (a e a' e' : ℕ) (w w₁ w₂ : List ℕ) → a ≤ a' → e' ≤ e → SameOutside a e w₁ w₂ → SameOutside a' e' w w₁ → SameOutside a e w w₂
outside_then a e a' e' w w₁ w₂ h k s t =
    let d : e' + (e - e') ≡ e = omega arith in
    record {
      front = s.front ∙ sym (take-take a a' w₁ h) ∙ ap (take a) t.front ∙ take-take a a' w h;
      rest = s.rest ∙ subst (λ (m : ℕ). drop m w₁ ≡ drop m w) d (sym (drop-drop (e - e') e' w₁) ∙ ap (drop (e - e')) t.rest ∙ drop-drop (e - e') e' w);
    }

pub outside_wider : (a e a' e' : ℕ) (w w' : List ℕ) → a ≤ a' → e' ≤ e → SameOutside a' e' w w' → SameOutside a e w w'
outside_wider a e a' e' w w' h k s = outside_then a e a' e' w w' w' h k (same_outside a e w') s

-- equal before m: equal at each place there
pub same-front : (m : ℕ) (w w' : List ℕ) → take m w' ≡ take m w → (i : ℕ) → i < m → get_or w' i 0 ≡ get_or w i 0
same-front m w w' e i h = sym (get_or-take m w' i 0 h) ∙ ap (λ (t : List ℕ). get_or t i 0) e ∙ get_or-take m w i 0 h

-- equal past m: equal at each place there
pub same_rest : (m : ℕ) (w w' : List ℕ) → drop m w' ≡ drop m w → (i : ℕ) → m ≤ i → get_or w' i 0 ≡ get_or w i 0
same_rest m w w' e i h =
    let d : m + (i - m) ≡ i = omega arith in
    subst (λ (k : ℕ). get_or w' k 0 ≡ get_or w k 0) d (sym (get_or-drop m w' (i - m) 0) ∙ ap (λ (t : List ℕ). get_or t (i - m) 0) e ∙ get_or-drop m w (i - m) 0)
