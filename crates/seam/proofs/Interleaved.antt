-- A sequence that keeps another's entries and puts a new one between each two: read as lists, it is one step of the curve. Assumes nothing.
use mathlib.Core.Path.{◌≡◌, refl, sym, ap, ap₂, ◌∙◌}
use mathlib.Core.Bool.{Bool, true, false}
use mathlib.Core.List.{List, [], ◌∷◌, ◌++◌}
use Prim.Native.Nat.{ℕ, zero, suc, ◌*◌, ◌≤◌, ◌<◌}
use native.Mathlib.Omega.{arith}
use Rattle.lists.specs.Tabulate.{tabulate}
use Rattle.curve.specs.Curve.{Rules, after, open_step, windows, last_of, closed_step}
use Rattle.seam.specs.BoundaryStep.{boundary_rule}

-- g' between g: mark i says whether entry i of g is marked, and behind i is what stands before it
pub record Interleaved {A : Type 0} (ℛ : Rules A) (mark : ℕ → Bool) (behind g g' : ℕ → A) : Type 0 where
  pub follows : (i : ℕ) → behind (suc i) ≡ g i
  pub old : (i : ℕ) → g' (2 * i) ≡ ℛ.keep (g i)
  pub new : (i : ℕ) → g' (suc (2 * i)) ≡ boundary_rule ℛ (mark i) (mark (suc i)) (behind i) (g i) (g (suc i)) (g (suc (suc i)))

module _ {A : Type 0} (ℛ : Rules A) where
  -- from the next entry on
  onward : {mark : ℕ → Bool} {behind g g' : ℕ → A} → Interleaved ℛ mark behind g g'
      → Interleaved ℛ (λ (i : ℕ). mark (suc i)) (λ (i : ℕ). behind (suc i)) (λ (i : ℕ). g (suc i)) (λ (i : ℕ). g' (suc (suc i)))
  onward {g' = g'} d = record {
    follows = λ i. d.follows (suc i);
    old = λ i. let e : suc (suc (2 * i)) ≡ 2 * suc i = omega arith in ap g' e ∙ d.old (suc i);
    new = λ i. let e : suc (suc (suc (2 * i))) ≡ suc (2 * suc i) = omega arith in ap g' e ∙ d.new (suc i);
  }

  -- two entries for the first one
  first_two : {mark : ℕ → Bool} {behind g g' : ℕ → A} → Interleaved ℛ mark behind g g' → (n : ℕ) {a b : Bool} → mark 0 ≡ a → mark 1 ≡ b
      → tabulate (suc (suc n)) g' ≡ ℛ.keep (g 0) ∷ boundary_rule ℛ a b (behind 0) (g 0) (g 1) (g 2) ∷ tabulate n (λ (i : ℕ). g' (suc (suc i)))
  unfolding tabulate
  first_two {mark} {behind} {g} {g'} d n s t =
      ap₂ (λ (x y : A). x ∷ y ∷ tabulate n (λ (i : ℕ). g' (suc (suc i)))) (d.old 0)
      (d.new 0 ∙ ap₂ (λ (x y : Bool). boundary_rule ℛ x y (behind 0) (g 0) (g 1) (g 2)) s t)

  doubled : (n : ℕ) → 2 * suc n ≡ suc (suc (2 * n))
  doubled n = omega arith

  -- ---- open: from an entry inside the segment, n + 1 edges before its end
  inside_list : (n : ℕ) {mark : ℕ → Bool} {behind g g' : ℕ → A} → Interleaved ℛ mark behind g g' → ((i : ℕ) → i ≤ n → mark i ≡ false) → mark (suc n) ≡ true
      → tabulate (suc (2 * suc n)) g' ≡ ℛ.keep (g 0) ∷ after ℛ (behind 0) (g 0) (tabulate (suc n) (λ (i : ℕ). g (suc i)))
  unfolding tabulate after boundary_rule
  inside_list zero {behind = behind} {g = g} {g' = g'} d m e =
      first_two d 1 (m 0 (omega arith)) e
      ∙ ap (λ (x : A). ℛ.keep (g 0) ∷ ℛ.end (g 1) (g 0) (behind 0) ∷ x ∷ []) (d.old 1)
  inside_list (suc n) {behind = behind} {g = g} {g' = g'} d m e =
      ap (λ (j : ℕ). tabulate (suc j) g') (doubled (suc n))
      ∙ first_two d (suc (2 * suc n)) (m 0 (omega arith)) (m 1 (omega arith))
      ∙ ap (λ (l : List A). ℛ.keep (g 0) ∷ ℛ.inside (behind 0) (g 0) (g 1) (g 2) ∷ l)
      (inside_list n (onward d) (λ i h. m (suc i) (omega arith)) e
      ∙ ap (λ (x : A). ℛ.keep (g 1) ∷ after ℛ x (g 1) (tabulate (suc n) (λ (i : ℕ). g (suc (suc i))))) (d.follows 0))

  pub open_list : (n : ℕ) {mark : ℕ → Bool} {behind g g' : ℕ → A} → Interleaved ℛ mark behind g g' → 0 < n → mark 0 ≡ true → ((i : ℕ) → 0 < i → i < n → mark i ≡ false) → mark n ≡ true
      → tabulate (suc (2 * n)) g' ≡ open_step ℛ (tabulate (suc n) g)
  unfolding tabulate open_step boundary_rule
  open_list zero d z s m e = absurd (omega arith)
  open_list (suc zero) {g = g} {g' = g'} d z s m e =
      first_two d 1 s e
      ∙ ap (λ (x : A). ℛ.keep (g 0) ∷ ℛ.single (g 0) (g 1) ∷ x ∷ []) (d.old 1)
  open_list (suc (suc n)) {g = g} {g' = g'} d z s m e =
      ap (λ (j : ℕ). tabulate (suc j) g') (doubled (suc n))
      ∙ first_two d (suc (2 * suc n)) s (m 1 (omega arith) (omega arith))
      ∙ ap (λ (l : List A). ℛ.keep (g 0) ∷ ℛ.end (g 0) (g 1) (g 2) ∷ l)
      (inside_list n (onward d) (λ i h. m (suc i) (omega arith) (omega arith)) e
      ∙ ap (λ (x : A). ℛ.keep (g 1) ∷ after ℛ x (g 1) (tabulate (suc n) (λ (i : ℕ). g (suc (suc i))))) (d.follows 0))

  -- ---- closed: n entries, with one more before them and two after them
  windows_list : (n : ℕ) {mark : ℕ → Bool} {behind g g' : ℕ → A} → Interleaved ℛ mark behind g g' → ((i : ℕ) → mark i ≡ false)
      → tabulate (2 * n) g' ≡ windows ℛ (behind 0 ∷ tabulate (suc (suc n)) g)
  unfolding tabulate windows boundary_rule
  windows_list zero d m = refl
  windows_list (suc n) {behind = behind} {g = g} {g' = g'} d m =
      ap (λ (j : ℕ). tabulate j g') (doubled n)
      ∙ first_two d (2 * n) (m 0) (m 1)
      ∙ ap (λ (l : List A). ℛ.keep (g 0) ∷ ℛ.inside (behind 0) (g 0) (g 1) (g 2) ∷ l)
      (windows_list n (onward d) (λ i. m (suc i)) ∙ ap (λ (x : A). windows ℛ (x ∷ tabulate (suc (suc n)) (λ (i : ℕ). g (suc i)))) (d.follows 0))

  two_more : (n : ℕ) (g : ℕ → A) → tabulate (suc (suc n)) g ≡ tabulate n g ++ (g n ∷ g (suc n) ∷ [])
  unfolding tabulate
  two_more zero g = refl
  two_more (suc n) g = ap (λ (l : List A). g 0 ∷ l) (two_more n (λ (i : ℕ). g (suc i)))

  last_is : (n : ℕ) (g : ℕ → A) → last_of (g 0) (tabulate n (λ (i : ℕ). g (suc i))) ≡ g n
  unfolding tabulate last_of
  last_is zero g = refl
  last_is (suc n) g = last_is n (λ (i : ℕ). g (suc i))

  -- the sequence g comes round after n + 2 entries
  pub closed_list : (n : ℕ) {mark : ℕ → Bool} {behind g g' : ℕ → A} → Interleaved ℛ mark behind g g' → ((i : ℕ) → mark i ≡ false)
      → behind 0 ≡ g (suc n) → g (suc (suc n)) ≡ g 0 → g (suc (suc (suc n))) ≡ g 1
      → tabulate (2 * suc (suc n)) g' ≡ closed_step ℛ (tabulate (suc (suc n)) g)
  unfolding tabulate closed_step
  closed_list n {g = g} d m b e f =
      windows_list (suc (suc n)) d m
      ∙ ap₂ (λ (x : A) (l : List A). windows ℛ (x ∷ l)) (b ∙ sym (last_is (suc n) g))
      (two_more (suc (suc n)) g ∙ ap₂ (λ (x y : A). tabulate (suc (suc n)) g ++ (x ∷ y ∷ [])) e f)
