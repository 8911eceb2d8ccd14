-- The new points of a net, and refusal 15. Assumes nothing.
use mathlib.Core.Path.{◌≡◌, refl, ap₂, ◌∙◌, sym}
use mathlib.Core.List.{List}
use Prim.Native.Nat.{ℕ, ◌+◌, ◌≤◌, ◌<◌}
use native.Mathlib.Decide.{dec_lt}
use native.Mathlib.Omega.{arith}
use lib.IntN.{ℤ}
use lib.ListN.{length}
use borrow.Author.Tests.{le-ltb, lt-ltb}
use Rattle.bounds.specs.Bounds.{max_refined_corners, max_tally}
use Rattle.curve.specs.Weights.{tension}
use Rattle.nets.specs.Net.{ControlNet, control_net}
use Rattle.refinedfaces.specs.Refined.{vertices_after}
use Rattle.schemelaws.proofs.Steps.{steps-count}
use Rattle.splitting.specs.Splitting.{start_net}
use Rattle.splitting.proofs.Split.{start_faces, start_marks}
use Rattle.verdict.specs.Call.{Call}
use Rattle.verdict.specs.Verdict.{Verdict, accepted, refused, or_else, verdict}
use Rattle.verdict.proofs.Accepted.{never, or_accepted, accepted_limits, accepted_fewer}
use Rattle.outcome.specs.Tally.{new_points, tally_verdict}
use Rattle.outcome.specs.Outcome.{Request, for_rounds, call_of, to_add, request_verdict}
use Rattle.outcome.specs.SharedSegment.{Accepted}
use Rattle.outcome.proofs.Accepted.{accepted_verdict, accepted_tally}
use Rattle.outcome.proofs.Counts.{more_vertices, few_vertices}

-- ---- 15
pub tally_if : (tally n : ℕ) → tally + n ≤ max_tally → tally_verdict tally n ≡ accepted
unfolding tally_verdict
tally_if tally n h = rw (le-ltb max_tally (tally + n) h)

pub tally_refused : (tally n : ℕ) → max_tally < tally + n → tally_verdict tally n ≡ refused 15 0
unfolding tally_verdict
tally_refused tally n h = rw (lt-ltb max_tally (tally + n) h)

pub tally_le : (tally n : ℕ) → tally_verdict tally n ≡ accepted → tally + n ≤ max_tally
tally_le tally n e = go (dec_lt max_tally (tally + n))
  where
    go : Dec (max_tally < tally + n) → tally + n ≤ max_tally
    go (yes h) = never 15 0 (sym (tally_refused tally n h) ∙ e)
    go (no h) = omega arith

-- ---- new points
-- fewer rounds, fewer points
fewer_points : (t : ℕ) (m : ControlNet) (j k : ℕ) → j ≤ k → new_points t j m ≤ new_points t k m
unfolding new_points
fewer_points t m j k h = let a = more_vertices t (start_net m) j k h in omega arith

-- coordinates do not matter
pub same_points : (t k : ℕ) (v v' : List ℤ) (l s marks : List ℕ) → new_points t k (control_net v l s marks) ≡ new_points t k (control_net v' l s marks)
unfolding new_points
same_points t k v v' l s marks =
    let a = steps-count (tension t) (start_net (control_net v l s marks)) k in
    let b = steps-count (tension t) (start_net (control_net v' l s marks)) k in
    let c = ap₂ (λ (ms fs : List ℕ). vertices_after k (length ms) fs) (start_marks v v' l s marks) (start_faces v v' l s marks) in
    omega arith

-- at most 4G
pub few_points : (c : Call) → verdict c ≡ accepted → new_points c.tension c.rounds c.net ≤ max_refined_corners
unfolding new_points
few_points c e = let a = few_vertices c e in let b = (accepted_limits c e).final in omega arith

-- from zero, 15 does not hold: the verdict is that of the check
pub untallied : (a : Request) → a.tally ≡ 0 → request_verdict a ≡ verdict (call_of a)
unfolding request_verdict
untallied a z = go (verdict (call_of a)) refl
  where
    go : (v : Verdict) → verdict (call_of a) ≡ v → or_else v (tally_verdict a.tally (to_add a)) ≡ v
    go accepted e = let b = few_points (call_of a) e in tally_if a.tally (to_add a) (omega arith)
    go (refused r p) e = refl

-- ---- the same call for fewer rounds, from the same tally
pub accepted_for_fewer : (a : Request) → Accepted a → (k : ℕ) → k ≤ a.rounds → request_verdict (for_rounds k a) ≡ accepted
unfolding request_verdict
accepted_for_fewer a h k l =
    let n : ControlNet = a.net in
    let e = accepted_fewer (call_of a) k l (accepted_verdict a a.rounds h) in
    let s = tally_le a.tally (new_points a.tension a.rounds n) (accepted_tally a a.rounds h) in
    let f = fewer_points a.tension n k a.rounds l in
    or_accepted e (tally_if a.tally (new_points a.tension k n) (omega arith))
