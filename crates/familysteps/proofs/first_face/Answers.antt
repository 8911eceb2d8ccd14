-- `first_face` meets its contract. Assumes nothing.
use native.Mathlib.Omega.{arith}
use Rattle.familysteps.proofs.Steps.{ends, goes, then}
use Rattle.familysteps.proofs.first_face.Goals as goal

pub make_edge-k1-requires : goal.make_edge-k1-requires
make_edge-k1-requires c = (goes c.requires.0 c.first_half-k0.ensures (omega arith), c.requires.1.spoke₀)

pub make_edge-k2-requires : goal.make_edge-k2-requires
make_edge-k2-requires c = (goes c.requires.0 (then c.first_half-k0.ensures c.make_edge-k1.ensures (omega arith)) (omega arith), c.requires.1.spoke₃)

pub last_half-requires : goal.last_half-requires
last_half-requires c = (goes c.requires.0 (then (then c.first_half-k0.ensures c.make_edge-k1.ensures (omega arith)) c.make_edge-k2.ensures (omega arith)) (omega arith), c.requires.1.last₃)

pub returns : goal.returns
returns c = ends (then (then (then c.first_half-k0.ensures c.make_edge-k1.ensures (omega arith)) c.make_edge-k2.ensures (omega arith)) c.last_half.ensures (omega arith)) (omega arith)
