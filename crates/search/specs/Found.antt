-- What a search for the first number at which a test holds answers.
use Rattle.std.specs.Prelude.{◌≡◌, Bool, ℕ, ◌<◌, Option, None, Some}
use Rattle.search.specs.Search.{first}

-- none of the numbers below n, or the first of them at which the test holds
abbrev pub Found : (ℕ → Bool) → ℕ → Option ℕ → Type 0
Found p n None = first p n ≡ n
Found p n (Some i) = (first p n ≡ i) × (i < n)
