-- At tension 0 edges get their midpoints. Assumes nothing.
use mathlib.Core.Path.{◌≡◌, sym, ap, ◌∙◌, subst}
use Prim.Native.Nat.{ℕ, ◌+◌, ◌<◌}
use native.Mathlib.Numerals.{add-one}
use native.Mathlib.Omega.{arith}
use lib.ListN.{length}
use Rattle.curve.specs.Weights.{tension}
use Rattle.nets.specs.Net.{Net}
use Rattle.scheme.specs.Step.{step, steps}
use Rattle.schemelaws.specs.Nets.{Refinable}
use Rattle.schemelaws.proofs.Steps.{refinable_steps}
use Rattle.schemelaws.proofs.Midpoints.{step-midpoints}
use Rattle.splitting.specs.Splitting.{side_midpoint, start_net}
use Rattle.outcome.specs.Outcome.{call_of}
use Rattle.outcome.specs.SharedSegment.{net_after}
use Rattle.outcome.specs.Midpoints.{AtMidpoint, PlainMidpoints}
use Rattle.outcome.proofs.Accepted.{accepted_verdict, accepted_refinable, accepted_after}
use Rattle.outcome.proofs.Tally.{accepted_for_fewer}

one_step : (m m' : Net) → Refinable m → m' ≡ step (tension 0) m → (h x : ℕ) → h < length m.faces → x < 3 → AtMidpoint m m' h x
unfolding side_midpoint
one_step m m' ok e h x k b = rw e (step-midpoints m ok h x k b)

next : (t : ℕ) → t ≡ 0 → (s m m' : Net) (k : ℕ) → m ≡ steps (tension t) k s → m' ≡ steps (tension t) (k + 1) s → m' ≡ step (tension 0) m
unfolding steps
next t z s m m' k e f =
    f ∙ ap (λ (j : ℕ). steps (tension t) j s) (add-one k) ∙ ap (step (tension t)) (sym e) ∙ ap (λ (i : ℕ). step (tension i) m) z

pub at_midpoints : PlainMidpoints
at_midpoints = record {
  midpoints = λ a ok z k b h x c d.
      let e = accepted_after a k (accepted_for_fewer a ok k (omega arith)) in
      let f = accepted_after a (k + 1) (accepted_for_fewer a ok (k + 1) (omega arith)) in
      let r = refinable_steps (tension a.tension) (start_net a.net) (accepted_refinable (call_of a) (accepted_verdict a a.rounds ok)) k in
      one_step (net_after a k) (net_after a (k + 1)) (subst Refinable (sym e) r) (next a.tension z (start_net a.net) (net_after a k) (net_after a (k + 1)) k e f) h x c d;
}
