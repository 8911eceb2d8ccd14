-- What the functions that read say.
use Rattle.std.specs.Prelude.{◌≡◌, List, ℕ, ◌≤◌, length, drop, Option, Some, None}
use Rattle.decimal.specs.declared.Read as declared
use Rattle.decimalform.specs.Decimal.{Read, read_as, bad}

module _ {V A : Type 0} (is : V → A) where
  -- the answer to the text l, where a value v says `is v`
  abbrev pub read_of : Option (declared.Read V) → List ℕ → Read A
  read_of (Some r) l = read_as (is r.value) (drop r.used l)
  read_of None l = bad

-- how many bytes of the text a value took
abbrev pub used : {V : Type 0} → Option (declared.Read V) → ℕ
used (Some r) = r.used
used None = 0

-- the answer r says `what` of l, where a value v says `is v`, and took no more bytes than l has
pub record Gives {V A : Type 0} (is : V → A) (r : Option (declared.Read V)) (l : List ℕ) (what : Read A) : Type 0 where
  pub reads : read_of is r l ≡ what
  pub within : used r ≤ length l

-- the same where the value is a number
abbrev pub GivesNumber : {N : Type 0} → Option (declared.Read N) → List ℕ → Read N → Type 0
GivesNumber r l what = Gives (λ n. n) r l what
