-- Refined coordinates stay within 268,435,456. Assumes nothing.
use mathlib.Core.Path.{sym, subst}
use Prim.Native.Nat.{ℕ, ◌≤◌}
use native.Mathlib.Omega.{arith}
use Rattle.bounds.specs.Bounds.{max_coordinate}
use Rattle.curve.specs.Weights.{tension}
use Rattle.curve.proofs.Tension.{tame}
use Rattle.nets.specs.Net.{Net}
use Rattle.verdict.proofs.Accepted.{accepted_tension, accepted_limits, accepted_coordinate}
use Rattle.integers.specs.Within.{Within}
use Rattle.schemelaws.proofs.Growth.{steps_within}
use Rattle.splitting.specs.Splitting.{start_net}
use Rattle.splitting.proofs.Growth.{start_within}
use Rattle.outcome.specs.Outcome.{Request, call_of}
use Rattle.outcome.specs.SharedSegment.{Accepted, net_after}
use Rattle.outcome.specs.Coordinates.{CoordinatesStay}
use Rattle.outcome.proofs.Accepted.{accepted_verdict, accepted_well_formed, accepted_refinable, accepted_after}
use Rattle.outcome.proofs.Tally.{accepted_for_fewer}

stays : (a : Request) → Accepted a → (k : ℕ) → k ≤ a.rounds → Within 268435456 (net_after a k).vertices
stays a h k b =
    let c = call_of a in
    let e = accepted_verdict a a.rounds h in
    let f = (accepted_limits c e).few in
    subst (λ (n : Net). Within 268435456 n.vertices) (sym (accepted_after a k (accepted_for_fewer a h k b)))
    (steps_within (tension a.tension) (tame a.tension (accepted_tension c e)) (start_net a.net) (accepted_refinable c e) (start_within a.net (accepted_well_formed c e) max_coordinate (record { at = accepted_coordinate c e })) k (omega arith))

pub coordinates_stay : CoordinatesStay
coordinates_stay = record { stay = stays }
