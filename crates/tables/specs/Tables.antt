-- What is left in the caller's tables.
use Rattle.std.specs.Prelude.{◌≡◌, ℕ, ◌+◌, ◌≤◌, ◌<◌, List, ◌++◌, length, get_or, set, take, drop, replicate}

-- "fills .. from the front", "the rest of every output as found"; a table that is shorter than what fills it is refused (4)
unfoldable pub filled : {A : Type 0} → List A → List A → List A
filled s d = s ++ drop (length s) d

-- the first n numbers zero, the rest as found
unfoldable pub cleared : ℕ → List ℕ → List ℕ
cleared n w = replicate n 0 ++ drop n w

-- w with four numbers from the place i on
unfoldable pub put_four : List ℕ → ℕ → ℕ → ℕ → ℕ → ℕ → List ℕ
put_four w i a b c d = set (set (set (set w (i + 3) d) (i + 2) c) (i + 1) b) i a

-- w' is w but for the numbers from a up to e, which are those of f
pub record Written (a e : ℕ) (f : ℕ → ℕ) (w w' : List ℕ) : Type 0 where
  pub before : (k : ℕ) → k < a → get_or w' k 0 ≡ get_or w k 0
  pub inside : (k : ℕ) → a ≤ k → k < e → get_or w' k 0 ≡ f k
  pub behind : (k : ℕ) → e ≤ k → get_or w' k 0 ≡ get_or w k 0

-- w' is w but for the numbers from a up to e
pub record SameOutside (a e : ℕ) (w w' : List ℕ) : Type 0 where
  pub front : take a w' ≡ take a w
  pub rest : drop e w' ≡ drop e w

-- the n numbers of w from the place `at` on are zero
pub record ZerosFrom (n at : ℕ) (w : List ℕ) : Type 0 where
  pub zeros : (i : ℕ) → i < n → get_or w (at + i) 0 ≡ 0
