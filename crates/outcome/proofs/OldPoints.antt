-- At tension 4 the points are those of paper 01's weights. Assumes nothing.
use mathlib.Core.Path.{ap, ◌∙◌}
use Prim.Native.Nat.{ℕ}
use Rattle.curve.specs.Weights.{tension}
use Rattle.scheme.specs.Step.{steps}
use Rattle.schemelaws.proofs.OldPoints.{old_points}
use Rattle.splitting.specs.Splitting.{start_net}
use Rattle.outcome.specs.Outcome.{call_of}
use Rattle.outcome.specs.OldPoints.{OldPoints}
use Rattle.outcome.proofs.Accepted.{accepted_verdict, accepted_refinable, accepted_after}
use Rattle.outcome.proofs.Tally.{accepted_for_fewer}

pub old_callers : OldPoints
old_callers = record {
  old = λ a h e k b.
      accepted_after a k (accepted_for_fewer a h k b) ∙ ap (λ (t : ℕ). steps (tension t) k (start_net a.net)) e
      ∙ old_points (start_net a.net) (accepted_refinable (call_of a) (accepted_verdict a a.rounds h)) k;
}
