-- `second_face` meets its contract. Assumes nothing.
use mathlib.Core.Path.{sym}
use native.Mathlib.Omega.{arith}
use Rattle.familysteps.proofs.Steps.{ends, goes, then}
use Rattle.familysteps.proofs.second_face.Goals as goal

pub make_edge-k5-requires : goal.make_edge-k5-requires
make_edge-k5-requires c = (goes c.requires.0 c.first_half-k4.ensures (omega arith), c.requires.1.spoke₁)

pub pass_edge-k6-requires : goal.pass_edge-k6-requires
pass_edge-k6-requires c = (goes c.requires.0 (then c.first_half-k4.ensures c.make_edge-k5.ensures (omega arith)) (omega arith), sym c.requires.1.back₀, omega arith, (let k = c.requires.1.last₂.lt in omega arith))

pub last_half-requires : goal.last_half-requires
last_half-requires c = (goes c.requires.0 (then (then c.first_half-k4.ensures c.make_edge-k5.ensures (omega arith)) c.pass_edge-k6.ensures (omega arith)) (omega arith), c.requires.1.last₀)

pub returns : goal.returns
returns c = ends (then (then (then c.first_half-k4.ensures c.make_edge-k5.ensures (omega arith)) c.pass_edge-k6.ensures (omega arith)) c.last_half.ensures (omega arith)) (omega arith)
