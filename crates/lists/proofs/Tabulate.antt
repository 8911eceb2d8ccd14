-- Laws of `tabulate`; and the loop that writes it over the front of a list o, one store a turn: after i turns the list is
-- `tabulate i f ++ drop i o`. Assumes nothing.
use mathlib.Core.Path.{◌≡◌, refl, ap, ◌∙◌}
use mathlib.Core.List.{List, [], ◌∷◌, ◌++◌}
use Prim.Native.Nat.{ℕ, zero, suc, ◌+◌, ◌<◌}
use native.Mathlib.Nat.{not-suc-le-zero, le_of_suc-le-suc}
use native.Mathlib.Numerals.{add-one}
use native.Mathlib.Omega.{arith}
use lib.ListN.{length, get_or, set, drop}
use Rattle.lists.specs.Tabulate.{tabulate}

module _ {ℓ} {A : Type ℓ} where
  pub length-tabulate : (n : ℕ) (f : ℕ → A) → length (tabulate n f) ≡ n
  unfolding tabulate
  length-tabulate zero f = refl
  length-tabulate (suc n) f = ap suc (length-tabulate n (λ (k : ℕ). f (suc k)))

  pub get_or-tabulate : (n : ℕ) (f : ℕ → A) (k : ℕ) (d : A) → k < n → get_or (tabulate n f) k d ≡ f k
  unfolding tabulate
  get_or-tabulate zero f k d h = absurd (not-suc-le-zero h)
  get_or-tabulate (suc n) f zero d h = refl
  get_or-tabulate (suc n) f (suc k) d h = get_or-tabulate n (λ (j : ℕ). f (suc j)) k d (le_of_suc-le-suc h)

  -- two functions that agree below n have one table
  pub tabulate_cong : (n : ℕ) (f g : ℕ → A) → ((k : ℕ) → k < n → f k ≡ g k) → tabulate n f ≡ tabulate n g
  unfolding tabulate
  tabulate_cong zero f g h = refl
  tabulate_cong (suc n) f g h = ap (λ (x : A). x ∷ tabulate n (λ (k : ℕ). f (suc k))) (h 0 (omega arith)) ∙ ap (λ (t : List A). g 0 ∷ t) (tabulate_cong n (λ (k : ℕ). f (suc k)) (λ (k : ℕ). g (suc k)) (λ k l. h (suc k) (omega arith)))

  -- a list is the table of its elements
  pub tabulate-get_or : (l : List A) (d : A) → tabulate (length l) (λ (k : ℕ). get_or l k d) ≡ l
  unfolding tabulate
  tabulate-get_or [] d = refl
  tabulate-get_or (x ∷ l) d = ap (λ (t : List A). x ∷ t) (tabulate-get_or l d)

  -- ---- the loop that writes it
  pub write_none : (f : ℕ → A) (o : List A) → o ≡ tabulate 0 f ++ drop 0 o
  unfolding tabulate
  write_none f o = refl

  write_suc : (f : ℕ → A) (o : List A) (i : ℕ) → i < length o → set (tabulate i f ++ drop i o) i (f i) ≡ tabulate (suc i) f ++ drop (suc i) o
  unfolding tabulate
  write_suc f [] i k = absurd (not-suc-le-zero k)
  write_suc f (y ∷ o) zero k = refl
  write_suc f (y ∷ o) (suc i) k = ap (λ (t : List A). f 0 ∷ t) (write_suc (λ (j : ℕ). f (suc j)) o i (le_of_suc-le-suc k))

  -- one store
  pub write_one : (f : ℕ → A) (o : List A) (i : ℕ) → i < length o → set (tabulate i f ++ drop i o) i (f i) ≡ tabulate (i + 1) f ++ drop (i + 1) o
  write_one f o i h = rw (add-one i) (write_suc f o i h)

  -- three stores, as for the coordinates of a point
  pub write_three : (f : ℕ → A) (o : List A) (i : ℕ) → i + 2 < length o
      → set (set (set (tabulate i f ++ drop i o) i (f i)) (i + 1) (f (i + 1))) (i + 2) (f (i + 2)) ≡ tabulate (i + 3) f ++ drop (i + 3) o
  write_three f o i h =
      let e : (i + 1) + 1 ≡ i + 2 = omega arith in
      let g : (i + 2) + 1 ≡ i + 3 = omega arith in
      ap (λ (l : List A). set (set l (i + 1) (f (i + 1))) (i + 2) (f (i + 2))) (write_one f o i (omega arith))
      ∙ ap (λ (l : List A). set l (i + 2) (f (i + 2))) (write_one f o (i + 1) (omega arith) ∙ ap (λ (k : ℕ). tabulate k f ++ drop k o) e)
      ∙ write_one f o (i + 2) h
      ∙ ap (λ (k : ℕ). tabulate k f ++ drop k o) g
