-- What makes an answer of a search right. Assumes nothing.
use mathlib.Core.Path.{◌≡◌, refl, sym, ap, ◌∙◌}
use mathlib.Core.Bool.{Bool, true, false}
use mathlib.Core.List.{List}
use Prim.Native.Nat.{ℕ, zero, suc, ◌+◌, ◌≤◌, ◌<◌}
use native.Mathlib.Omega.{arith}
use lib.ListN.{length, get_or}
use lib.Dec.{ltb}
use borrow.Author.Tests.{ltb-true, ltb-false}
use Rattle.std.specs.Prelude.{Option, Some, None, cond}
use Rattle.std.specs.List.{position, position_or_len, find, range_with_len}
use Rattle.std.specs.Option.{option_map}
use Rattle.std.specs.Bool.{then_some}
use native.Mathlib.Numerals.{add-one}
use Rattle.std.proofs.lemmas.List.Sums.{fails_before_first, passes_at_first}
use Rattle.search.specs.Found.{Found}
use Rattle.search.specs.Search.{first_from, first}
use Rattle.search.proofs.First.{first-le, Passed, passed_hit, passed_all}

module _ (p : ℕ → Bool) (n : ℕ) where
  pub found_at : (i : ℕ) → Passed p i → i < n → p i ≡ true → Found p n (Some i)
  found_at i w h t = (sym (passed_hit p n i w h t), h)

  pub found_none : (i : ℕ) → Passed p i → n ≤ i → Found p n None
  found_none i w h = passed_all p n i w h

  -- the first number, if it is below n
  pub found_if : (i : ℕ) → i ≡ first p n → Found p n (then_some (ltb i n) i)
  found_if i e = go (ltb i n) refl
    where
      go : (b : Bool) → ltb i n ≡ b → Found p n (then_some b i)
      go true t = (sym e, ltb-true i n t)
      go false t = let h = ltb-false i n t in let k = first-le p n in omega arith

-- the answer of `position` on a list whose elements tell
by_position : {A : Type 0} (p : ℕ → Bool) (test : A → Bool) (xs : List A) (d : A) → ((i : ℕ) → i < length xs → p i ≡ test (get_or xs i d)) → Found p (length xs) (position test xs)
by_position p test xs d same = go (ltb (position_or_len test xs) (length xs)) refl
  where
    passed : (i : ℕ) → i ≤ length xs → i ≤ position_or_len test xs → Passed p i
    passed i a b = record { none = λ j h. same j (omega arith) ∙ fails_before_first test xs j d (omega arith) }

    go : (b : Bool) → ltb (position_or_len test xs) (length xs) ≡ b → Found p (length xs) (cond b (Some (position_or_len test xs)) None)
    go true e =
        let i : ℕ = position_or_len test xs in
        let h = ltb-true i (length xs) e in
        found_at p (length xs) i (passed i (omega arith) (omega arith)) h (same i h ∙ passes_at_first test xs d h)
    go false e = let h = ltb-false (position_or_len test xs) (length xs) e in found_none p (length xs) (length xs) (passed (length xs) (omega arith) h) (omega arith)

pub found_position : {A : Type 0} (p : ℕ → Bool) (n : ℕ) (test : A → Bool) (xs : List A) (d : A) (r : Option ℕ) → length xs ≡ n → r ≡ position test xs → ((i : ℕ) → i < n → p i ≡ test (get_or xs i d)) → Found p n r
found_position p n test xs d r k e same = rw (e, ← k) (by_position p test xs d (λ i h. same i (omega arith)))

-- the answer of `find` on the numbers below n
module _ (p : ℕ → Bool) where
  abbrev FoundFrom : (k a : ℕ) → Option ℕ → Type 0
  FoundFrom k a None = first_from p k a ≡ a + k
  FoundFrom k a (Some i) = (first_from p k a ≡ i) × (i < a + k)

  step : (k a : ℕ) (b : Bool) (r : Option ℕ) → p a ≡ b → FoundFrom k (a + 1) r → FoundFrom (suc k) a (cond b (Some a) r)
  unfolding first_from
  step k a true r e w = (rw e, omega arith)
  step k a false None e w = rw e (ap (first_from p k) (sym (add-one a)) ∙ w ∙ omega arith)
  step k a false (Some i) e w = let h = w.1 in (rw e (ap (first_from p k) (sym (add-one a)) ∙ w.0), omega arith)

  find_from : (k a : ℕ) → FoundFrom k a (find p (range_with_len a k))
  unfolding first_from
  find_from zero a = omega arith
  find_from (suc k) a = step k a (p a) (find p (range_with_len (a + 1) k)) refl (find_from k (a + 1))

  pub found_find : (n : ℕ) (r : Option ℕ) → option_map (λ (i : ℕ). i) r ≡ find p (range_with_len 0 n) → Found p n r
  unfolding first
  found_find n None e = let w = rw (← e) at (find_from n 0) in w ∙ omega arith
  found_find n (Some i) e = let w = rw (← e) at (find_from n 0) in let h = w.1 in (w.0, omega arith)
