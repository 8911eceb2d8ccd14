-- A drawn segment that two accepted nets with side counts share is shared where refining begins. Assumes nothing.
use mathlib.Core.Path.{◌≡◌, sym, subst}
use mathlib.Core.Logic.{◌↔◌}
use mathlib.Core.List.{List}
use Prim.Native.Nat.{ℕ, ◌<◌}
use lib.ListN.{length}
use Rattle.curve.specs.Curve.{Kind, Point}
use Rattle.topology.specs.Boundary.{Way}
use Rattle.nets.specs.Net.{Net}
use Rattle.verdict.proofs.Accepted.{accepted_manifold}
use Rattle.splitting.specs.Splitting.{start_net}
use Rattle.splitting.proofs.Split.{start-split}
use Rattle.seam.specs.Reading.{Reads}
use Rattle.seam.specs.Split.{halved, ReadsControl}
use Rattle.seam.proofs.Split.{split_reads}
use Rattle.outcome.specs.Outcome.{Request, call_of}
use Rattle.outcome.specs.SharedSegment.{Accepted}
use Rattle.outcome.specs.SplitSegment.{SplitSegments}
use Rattle.outcome.proofs.Accepted.{accepted_verdict}

-- of one of them
at_start : (a : Request) → Accepted a → 0 < length a.net.sides → (v : Way) (c : Kind) (s : ℕ) (L : List Point) → ReadsControl a.net v c s L
    → (P : List Point) → Reads (start_net a.net) v c s P ↔ (P ≡ halved c L)
at_start a h k v c s L r P =
    subst (λ (n : Net). Reads n v c s P ↔ (P ≡ halved c L)) (sym (start-split a.net k))
    (split_reads a.net (accepted_manifold (call_of a) (accepted_verdict a a.rounds h)) v c s L r P)

pub split_segments : SplitSegments
split_segments = record {
  shared = λ a b h g i j v w c s t L r. record { left = at_start a h i v c s L r.left; right = at_start b g j w c t L r.right };
}
