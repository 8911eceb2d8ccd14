-- The tally after a call goes by its report; after a series it is the sum over the accepted calls. Assumes nothing.
use mathlib.Core.Path.{◌≡◌, refl, ap}
use mathlib.Core.List.{List, [], ◌∷◌}
use Prim.Native.Nat.{ℕ, ◌+◌, ◌≤◌}
use native.Mathlib.Omega.{arith}
use lib.ListN.{length}
use Rattle.bounds.specs.Bounds.{max_tally}
use Rattle.verdict.specs.Verdict.{Verdict, accepted, refused, verdict}
use Rattle.verdict.proofs.Accepted.{or_both}
use Rattle.outcome.specs.Tally.{new_points, tally_verdict}
use Rattle.outcome.specs.Outcome.{refined_to, refused_with, Request, from_tally, Outcome, call_of, to_add, request_verdict, refined_net, outcome_by, outcome}
use Rattle.outcome.specs.Series.{TallyByReport, tally_after, accepted_of, points_of, TallyIsSum}
use Rattle.outcome.proofs.Counts.{control_among}
use Rattle.outcome.proofs.Tally.{tally_le}

-- ---- one call, by its verdict
module _ (a : Request) where
  abbrev by : Verdict → Outcome
  by v = outcome_by v a (refined_net a)

  adds_by : (v : Verdict) (x y : ℕ) → (by v).result ≡ refined_to x y → (by v).tally + length a.net.marks ≡ a.tally + x
  unfolding new_points
  adds_by accepted x y e = let d = control_among a.tension a.net a.rounds in let z : length (refined_net a).marks ≡ x = cc in omega arith
  adds_by (refused r p) x y e = let z : ◌≡◌ {A = ℕ} 0 1 = cc in absurd (omega arith)

  keeps_by : (v : Verdict) (x y : ℕ) → (by v).result ≡ refused_with x y → (by v).tally ≡ a.tally
  keeps_by accepted x y e = let z : ◌≡◌ {A = ℕ} 0 1 = cc in absurd (omega arith)
  keeps_by (refused r p) x y e = refl

pub tally_by_report : TallyByReport
unfolding outcome
tally_by_report = record {
  adds = λ a v f e. adds_by a (request_verdict a) v f e;
  keeps = λ a r p e. keeps_by a (request_verdict a) r p e;
}

-- ---- a series
module _ (tally : ℕ) (a : Request) where
  abbrev b : Request
  b = from_tally tally a

  abbrev given : Verdict → Outcome
  given v = outcome_by v b (refined_net a)

  -- the outcome by its verdict
  is_given : (v : Verdict) → request_verdict b ≡ v → outcome (from_tally tally a) ≡ given v
  unfolding outcome
  is_given v e = ap given e

  -- what is accepted stays within the limit
  within_limit : request_verdict b ≡ accepted → tally + to_add a ≤ max_tally
  unfolding request_verdict
  within_limit e = tally_le tally (to_add a) (or_both (verdict (call_of b)) (tally_verdict tally (to_add a)) e).1

  -- one call more: it is accepted and adds its new points, or nothing changes
  module _ (calls : List Request) where
    first_accepted : request_verdict b ≡ accepted → (tally_after tally (a ∷ calls) ≡ tally_after (tally + to_add a) calls) × (points_of (accepted_of tally (a ∷ calls)) ≡ to_add a + points_of (accepted_of (tally + to_add a) calls))
    unfolding tally_after accepted_of points_of
    first_accepted e = let o = is_given accepted e in (rw o, rw o)

    first_refused : (r p : ℕ) → request_verdict b ≡ refused r p → (tally_after tally (a ∷ calls) ≡ tally_after tally calls) × (points_of (accepted_of tally (a ∷ calls)) ≡ points_of (accepted_of tally calls))
    unfolding tally_after accepted_of points_of
    first_refused r p e = let o = is_given (refused r p) e in (rw o, rw o)

-- from any figure
pub sum-from : (tally : ℕ) (calls : List Request) → tally_after tally calls ≡ tally + points_of (accepted_of tally calls)
unfolding tally_after accepted_of points_of
sum-from tally [] = omega arith
sum-from tally (a ∷ calls) = go (request_verdict (b tally a)) refl (sum-from (tally + to_add a) calls) (sum-from tally calls)
  where
    go : (v : Verdict) → request_verdict (b tally a) ≡ v → tally_after (tally + to_add a) calls ≡ tally + to_add a + points_of (accepted_of (tally + to_add a) calls) → tally_after tally calls ≡ tally + points_of (accepted_of tally calls)
        → tally_after tally (a ∷ calls) ≡ tally + points_of (accepted_of tally (a ∷ calls))
    go accepted e s q = let f = first_accepted tally a calls e in omega (arith, f.0, f.1)
    go (refused r p) e s q = let f = first_refused tally a calls r p e in omega (arith, f.0, f.1)

pub within_from : (tally : ℕ) (calls : List Request) → tally ≤ max_tally → tally_after tally calls ≤ max_tally
unfolding tally_after
within_from tally [] h = h
within_from tally (a ∷ calls) h = go (request_verdict (b tally a)) refl (λ l. within_from (tally + to_add a) calls l) (within_from tally calls h)
  where
    go : (v : Verdict) → request_verdict (b tally a) ≡ v → (tally + to_add a ≤ max_tally → tally_after (tally + to_add a) calls ≤ max_tally) → tally_after tally calls ≤ max_tally → tally_after tally (a ∷ calls) ≤ max_tally
    go accepted e f q = let s = f (within_limit tally a e) in omega (arith, (first_accepted tally a calls e).0)
    go (refused r p) e f q = omega (arith, (first_refused tally a calls r p e).0)

pub tally_is_sum : TallyIsSum
tally_is_sum = record { sum = λ calls. omega (arith, sum-from 0 calls); within = λ calls. within_from 0 calls (omega arith) }
