-- An accepted call: its verdict, and the net that it gives. Assumes nothing.
use mathlib.Core.Path.{◌≡◌, refl, ap, ◌∙◌}
use Prim.Native.Nat.{ℕ, ◌*◌, ◌/◌}
use native.Mathlib.Omega.{arith}
use lib.ListN.{length}
use Rattle.curve.specs.Weights.{tension}
use Rattle.nets.specs.Net.{Net}
use Rattle.tables.proofs.Laws.{take-filled}
use Rattle.nets.proofs.Laws.{same-net}
use Rattle.verdict.specs.Call.{Call}
use Rattle.verdict.specs.Verdict.{Verdict, accepted, refused, verdict}
use Rattle.verdict.proofs.Accepted.{or_both, accepted_limits, accepted_net}
use Rattle.scheme.specs.Step.{steps}
use Rattle.splitting.specs.Splitting.{start_net}
use Rattle.splitting.specs.WellFormed.{WellFormed}
use Rattle.splitting.proofs.Split.{start_refinable}
use Rattle.schemelaws.specs.Nets.{Refinable}
use Rattle.schemelaws.proofs.Steps.{refinable_steps}
use Rattle.outcome.specs.Tally.{new_points, tally_verdict}
use Rattle.outcome.specs.Outcome.{refined_to, Request, for_rounds, Outcome, call_of, request_verdict, refined_net, outcome_by, outcome}
use Rattle.outcome.specs.SharedSegment.{AcceptedFor, net_by, net_after}

-- ---- the verdict behind the result
pub by_result : (v : Verdict) (a : Request) (n : Net) (x y : ℕ) → (outcome_by v a n).result ≡ refined_to x y → v ≡ accepted
by_result accepted a n x y e = refl
by_result (refused r p) a n x y e = let z : ◌≡◌ {A = ℕ} 0 1 = cc in absurd (omega arith)

module _ (a : Request) (k : ℕ) (h : AcceptedFor a k) where
  abbrev c : Call
  c = call_of (for_rounds k a)

  accepted_request : request_verdict (for_rounds k a) ≡ accepted
  unfolding outcome
  accepted_request =
      by_result (request_verdict (for_rounds k a)) (for_rounds k a) (refined_net (for_rounds k a)) h.vertices h.faces h.result

  both : (verdict c ≡ accepted) × (tally_verdict a.tally (new_points a.tension k a.net) ≡ accepted)
  unfolding request_verdict
  both = or_both (verdict c) (tally_verdict a.tally (new_points a.tension k a.net)) accepted_request

  pub accepted_verdict : verdict (call_of (for_rounds k a)) ≡ accepted
  accepted_verdict = both.0

  pub accepted_tally : tally_verdict a.tally (new_points a.tension k a.net) ≡ accepted
  accepted_tally = both.1

-- ---- what an accepted net has
pub accepted_well_formed : (c : Call) → verdict c ≡ accepted → WellFormed c.net
accepted_well_formed c e =
    let w = accepted_limits c e in
    let n = accepted_net c e in
    let p = w.points in
    let q = w.marked in
    record {
      threes = omega arith;
      sided = w.sided;
      no6 = n.before.no6;
      no7to11 = record { no7 = n.before.no7; no8 = n.before.no8; no9 = n.before.no9; no10 = n.before.no10; no11 = n.no11 };
      no12 = n.no12;
    }

-- and where refining begins
pub accepted_refinable : (c : Call) → verdict c ≡ accepted → Refinable (start_net c.net)
accepted_refinable c e = start_refinable c.net (accepted_well_formed c e)

-- ---- the net at the front of the outputs
-- the outcome of the request for k rounds, were v the verdict and n the refined net
abbrev pub given : Request → ℕ → Verdict → Net → Outcome
given a k v n = outcome_by v (for_rounds k a) n

module _ (a : Request) (k : ℕ) (e : request_verdict (for_rounds k a) ≡ accepted) where
  abbrev call : Call
  call = call_of (for_rounds k a)

  after : Refinable (steps (tension a.tension) k (start_net a.net))
  unfolding request_verdict
  after = refinable_steps (tension a.tension) (start_net a.net) (accepted_refinable call (or_both (verdict call) (tally_verdict a.tally (new_points a.tension k a.net)) e).0) k

  pub accepted_result : AcceptedFor a k
  unfolding outcome
  accepted_result = record {
    vertices = length (steps (tension a.tension) k (start_net a.net)).marks;
    faces = length (steps (tension a.tension) k (start_net a.net)).faces / 4;
    result = ap (λ (v : Verdict). (given a k v (steps (tension a.tension) k (start_net a.net))).result) e;
  }

  pub accepted_after : net_after a k ≡ steps (tension a.tension) k (start_net a.net)
  unfolding outcome
  accepted_after =
      let n : Net = steps (tension a.tension) k (start_net a.net) in
      let o = a.buffers in
      let t = after.threes in
      let f = after.fours in
      ap (λ (v : Verdict). net_by (given a k v n).result (given a k v n)) e
      ∙ same-net (take-filled n.vertices o.vertices (3 * length n.marks) (omega arith))
      (take-filled n.faces o.faces (4 * (length n.faces / 4)) (omega arith)) (take-filled n.marks o.marks (length n.marks) refl)
