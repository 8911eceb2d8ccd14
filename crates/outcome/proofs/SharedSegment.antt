-- Demand 3: two accepted calls whose nets share a boundary segment still share it after every round. Assumes nothing.
use mathlib.Core.Path.{◌≡◌, sym, ap, ◌∙◌, subst}
use mathlib.Core.Logic.{◌↔◌}
use Rattle.curve.specs.Weights.{tension}
use Rattle.curve.specs.Curve.{curve}
use Rattle.nets.specs.Net.{Net}
use Prim.Native.Nat.{ℕ}
use Rattle.scheme.specs.Step.{steps}
use Rattle.schemelaws.proofs.Steps.{refinable_manifold}
use Rattle.splitting.specs.Splitting.{start_net}
use Rattle.seam.specs.Reading.{Reads}
use Rattle.seam.specs.Seam.{Admissible}
use Rattle.seam.proofs.Seam.{seam}
use Rattle.verdict.proofs.Accepted.{accepted_tension}
use Rattle.outcome.specs.Outcome.{Request, call_of}
use Rattle.outcome.specs.SharedSegment.{Accepted, SharedSegments}
use Rattle.outcome.proofs.Accepted.{accepted_verdict, accepted_refinable, accepted_result, accepted_after}
use Rattle.outcome.proofs.Tally.{accepted_for_fewer}

admissible : (a : Request) → Accepted a → Admissible (start_net a.net)
admissible a h = refinable_manifold (start_net a.net) (accepted_refinable (call_of a) (accepted_verdict a a.rounds h))

pub shared_segments : SharedSegments
shared_segments = record {
  shared = λ a b h g o v w c s t L r k i j.
      let m = seam a.tension (accepted_tension (call_of a) (accepted_verdict a a.rounds h)) (start_net a.net) (start_net b.net) (admissible a h) (admissible b g) v w c s t L r.left r.right k in
      let x = accepted_for_fewer a h k i in
      let y = accepted_for_fewer b g k j in
      record {
        accepted_left = accepted_result a k x;
        accepted_right = accepted_result b k y;
        left = λ P. subst (λ (n : Net). Reads n v c s P ↔ (P ≡ curve (tension a.tension) c k L)) (sym (accepted_after a k x)) (m.left P);
        right = λ P. subst (λ (n : Net). Reads n w c t P ↔ (P ≡ curve (tension a.tension) c k L)) (sym (accepted_after b k y ∙ ap (λ (i : ℕ). steps (tension i) k (start_net b.net)) (sym o))) (m.right P);
        close = m.close;
      };
}
