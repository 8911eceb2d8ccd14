-- Reading lines: a text by its first bytes, a line of names, a number with the byte after it. Assumes nothing.
use mathlib.Core.Path.{◌≡◌, refl, ap, ◌∙◌}
use mathlib.Core.Bool.{Bool, true, false, cond, ◌&&◌}
use mathlib.Core.List.{List, [], ◌∷◌}
use Prim.Native.Nat.{ℕ, zero, suc, ◌≤◌, ◌<◌}
use native.Mathlib.Decide.{dec_lt}
use native.Mathlib.Omega.{arith}
use lib.Dec.{eqb}
use lib.ListN.{length, drop}
use Rattle.decimalform.specs.Decimal.{Read, read_as, bad, read_natural}
use Rattle.decimalform.proofs.Reading.{natural_at_most}
use Rattle.textform.specs.Form.{starts_with, read_names, ended_by, natural, rows, rows_after}

-- ---- a text that starts with s, one byte a turn
pub starts_short : (s l : List ℕ) → length l < length s → starts_with s l ≡ false
starts_short [] l h = absurd (omega arith)
starts_short (c ∷ s) [] h = refl
starts_short (c ∷ s) (b ∷ l) h = go (eqb b c) (starts_short s l (omega arith))
  where
    go : (t : Bool) → starts_with s l ≡ false → (t && starts_with s l) ≡ false
    go true e = e
    go false e = refl

pub starts_length : (s l : List ℕ) → starts_with s l ≡ true → length s ≤ length l
starts_length s l e = go (dec_lt (length l) (length s))
  where
    go : Dec (length l < length s) → length s ≤ length l
    go (yes h) = let f = starts_short s l h in let z : ◌≡◌ {A = ℕ} 0 1 = cc in absurd (omega arith)
    go (no h) = omega arith

-- ---- a line of names: the text starts with that of the first meaning, or with a later one, or with none
module _ {A : Type 0} (names : A → List ℕ) (m : A) (ms : List A) (l : List ℕ) where
  pub names_here : starts_with (names m) l ≡ true → read_names names (m ∷ ms) l ≡ read_as m (drop (length (names m)) l)
  unfolding read_names
  names_here e = rw e

  pub names_later : starts_with (names m) l ≡ false → read_names names (m ∷ ms) l ≡ read_names names ms l
  unfolding read_names
  names_later e = rw e

pub names_none : {A : Type 0} (names : A → List ℕ) (l : List ℕ) → read_names names [] l ≡ bad
unfolding read_names
names_none names l = refl

-- a number that is read is at most the limit
ended_limit : (limit : ℕ) (l : List ℕ) (e x v : ℕ) (k m : List ℕ) → read_natural limit l ≡ read_as x k → ended_by e (read_as x k) ≡ read_as v m → v ≤ limit
ended_limit limit l e x v [] m q s = let z : ◌≡◌ {A = ℕ} 0 1 = cc in absurd (omega arith)
ended_limit limit l e x v (b ∷ k) m q s = go (eqb b e) s
  where
    go : (t : Bool) → cond t (read_as x k) bad ≡ read_as v m → v ≤ limit
    go true p = natural_at_most limit l v (b ∷ k) (q ∙ ap (λ (y : ℕ). read_as y (b ∷ k)) (cc))
    go false p = let z : ◌≡◌ {A = ℕ} 0 1 = cc in absurd (omega arith)

pub natural_limit : (limit e : ℕ) (l : List ℕ) (v : ℕ) (m : List ℕ) → natural limit e l ≡ read_as v m → v ≤ limit
unfolding natural
natural_limit limit e l v m p = go (read_natural limit l) refl p
  where
    go : (w : Read ℕ) → read_natural limit l ≡ w → ended_by e w ≡ read_as v m → v ≤ limit
    go bad q s = let z : ◌≡◌ {A = ℕ} 0 1 = cc in absurd (omega arith)
    go (read_as x k) q s = ended_limit limit l e x v k m q s

-- ---- lines after each other: at most n of them
module _ {A : Type 0} (read : List ℕ → Read A) where
  pub rows_length : (n : ℕ) (l : List ℕ) → length (rows read n l).values ≤ n
  unfolding rows
  rows_length zero l = omega arith
  rows_length (suc n) l = go (read l) (λ m. rows_length n m)
    where
      go : (r : Read A) → ((m : List ℕ) → length (rows read n m).values ≤ n) → length (rows_after l r (rows read n)).values ≤ suc n
      go (read_as v m) h = let k = h m in omega arith
      go bad h = omega arith
