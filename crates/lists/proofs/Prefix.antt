-- The loop that copies a list f over the front of a list o, one store a turn: after i turns the list is `take i f ++ drop i o`. Assumes nothing.
use mathlib.Core.Path.{◌≡◌, refl, ap}
use mathlib.Core.List.{List, [], ◌∷◌, ◌++◌}
use Prim.Native.Nat.{ℕ, zero, suc, ◌+◌, ◌<◌}
use native.Mathlib.Nat.{not-suc-le-zero, le_of_suc-le-suc}
use native.Mathlib.Numerals.{add-one}
use lib.ListN.{length, get_or, set, take, drop}

module _ {ℓ} {A : Type ℓ} where
  copy_suc : (f o : List A) (i : ℕ) (d : A) → i < length f → i < length o → set (take i f ++ drop i o) i (get_or f i d) ≡ take (suc i) f ++ drop (suc i) o
  copy_suc [] o i d h k = absurd (not-suc-le-zero h)
  copy_suc (x ∷ f) [] i d h k = absurd (not-suc-le-zero k)
  copy_suc (x ∷ f) (y ∷ o) zero d h k = refl
  copy_suc (x ∷ f) (y ∷ o) (suc i) d h k = ap (λ (t : List A). x ∷ t) (copy_suc f o i d (le_of_suc-le-suc h) (le_of_suc-le-suc k))

  -- one store
  pub copy_one : (f o : List A) (i : ℕ) (d : A) → i < length f → i < length o → set (take i f ++ drop i o) i (get_or f i d) ≡ take (i + 1) f ++ drop (i + 1) o
  copy_one f o i d h k = rw (add-one i) (copy_suc f o i d h k)
