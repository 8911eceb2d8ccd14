-- `third_face` meets its contract. Assumes nothing.
use mathlib.Core.Path.{sym}
use native.Mathlib.Omega.{arith}
use Rattle.familysteps.proofs.Steps.{ends, goes, then}
use Rattle.familysteps.proofs.third_face.Goals as goal

pub make_edge-k9-requires : goal.make_edge-k9-requires
make_edge-k9-requires c = (goes c.requires.0 c.first_half-k8.ensures (omega arith), c.requires.1.spoke₂)

pub pass_edge-k10-requires : goal.pass_edge-k10-requires
pass_edge-k10-requires c = (goes c.requires.0 (then c.first_half-k8.ensures c.make_edge-k9.ensures (omega arith)) (omega arith), sym c.requires.1.back₁, omega arith, (let k = c.requires.1.last₂.lt in omega arith))

pub last_half-requires : goal.last_half-requires
last_half-requires c = (goes c.requires.0 (then (then c.first_half-k8.ensures c.make_edge-k9.ensures (omega arith)) c.pass_edge-k10.ensures (omega arith)) (omega arith), c.requires.1.last₁)

pub returns : goal.returns
returns c = ends (then (then (then c.first_half-k8.ensures c.make_edge-k9.ensures (omega arith)) c.pass_edge-k10.ensures (omega arith)) c.last_half.ensures (omega arith)) (omega arith)
