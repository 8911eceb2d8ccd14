-- The tally after one call, and after a series of calls.
use Rattle.std.specs.Prelude.{◌≡◌, List, [], ◌∷◌, ℕ, ◌+◌, ◌≤◌, length}
use Rattle.bounds.specs.Bounds.{max_tally}
use Rattle.outcome.specs.Outcome.{Result, refined_to, refused_with, Request, from_tally, to_add, outcome}

-- by what the call reports: "An accepted call adds refined vertices minus drawn vertices; a refused call adds nothing."
pub record TallyByReport : Type 0 where
  pub adds : (a : Request) (v f : ℕ) → (outcome a).result ≡ refined_to v f → (outcome a).tally + length a.net.marks ≡ a.tally + v
  pub keeps : (a : Request) (r p : ℕ) → (outcome a).result ≡ refused_with r p → (outcome a).tally ≡ a.tally

-- what the record holds after the calls, each of which finds it as the call before left it: "with nothing else writing the record"
unfoldable pub tally_after : ℕ → List Request → ℕ
tally_after t [] = t
tally_after t (a ∷ calls) = tally_after (outcome (from_tally t a)).tally calls

-- with the call a where it was accepted
abbrev kept_if : Result → Request → List Request → List Request
kept_if (refined_to v f) a accepted = a ∷ accepted
kept_if (refused_with r p) a accepted = accepted

-- the calls that were accepted
unfoldable pub accepted_of : ℕ → List Request → List Request
accepted_of t [] = []
accepted_of t (a ∷ calls) = kept_if (outcome (from_tally t a)).result a (accepted_of (outcome (from_tally t a)).tally calls)

-- the new points of these calls, by their rounds and nets alone
unfoldable pub points_of : List Request → ℕ
points_of [] = 0
points_of (a ∷ calls) = to_add a + points_of calls

pub record TallyIsSum : Type 0 where
  -- "Over any series of calls from zero .. the tally equals the sum over the accepted nets, worked out from the nets and not from stored sums."
  pub sum : (calls : List Request) → tally_after 0 calls ≡ points_of (accepted_of 0 calls)
  -- 15 holds it to its limit
  pub within : (calls : List Request) → tally_after 0 calls ≤ max_tally
