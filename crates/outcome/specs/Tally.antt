-- The usage tally. Paper 02: "Makers pay by new points. The host lends one tally record and reads it after each call."
use Rattle.std.specs.Prelude.{ℕ, ◌+◌, ◌-◌, ltb, length}
use Rattle.bounds.specs.Bounds.{max_tally}
use Rattle.curve.specs.Weights.{tension}
use Rattle.nets.specs.Net.{ControlNet}
use Rattle.verdict.specs.Call.{vertex_count}
use Rattle.verdict.specs.Verdict.{Verdict, refused_if}
use Rattle.scheme.specs.Step.{steps}
use Rattle.splitting.specs.Splitting.{start_net}

-- "refined vertices minus drawn vertices", of the net m after k rounds: the same at every tension, and never cut off, as drawn vertices are among the refined
unfoldable pub new_points : (t k : ℕ) → ControlNet → ℕ
new_points t k m = vertex_count (steps (tension t) k (start_net m)) - length m.marks

-- 15: "the tally after the call would be above 4,000,000,000, even if nothing is added": the record holds tally, and the call would add n
unfoldable pub tally_verdict : (tally n : ℕ) → Verdict
tally_verdict tally n = refused_if 15 (ltb max_tally (tally + n))
