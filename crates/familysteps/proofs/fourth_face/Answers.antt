-- `fourth_face` meets its contract. Assumes nothing.
use mathlib.Core.Path.{sym}
use native.Mathlib.Omega.{arith}
use Rattle.familysteps.proofs.Steps.{ends, goes, then}
use Rattle.familysteps.proofs.fourth_face.Goals as goal

pub pass_edge-k13-requires : goal.pass_edge-k13-requires
pass_edge-k13-requires c = (goes c.requires.0 c.first_half-k12.ensures (omega arith), sym c.requires.1.back₃, omega arith, (let k = c.requires.1.last₂.lt in omega arith))

pub pass_edge-k14-requires : goal.pass_edge-k14-requires
pass_edge-k14-requires c = (goes c.requires.0 (then c.first_half-k12.ensures c.pass_edge-k13.ensures (omega arith)) (omega arith), sym c.requires.1.back₂, omega arith, (let k = c.requires.1.last₂.lt in omega arith))

pub last_half-requires : goal.last_half-requires
last_half-requires c = (goes c.requires.0 (then (then c.first_half-k12.ensures c.pass_edge-k13.ensures (omega arith)) c.pass_edge-k14.ensures (omega arith)) (omega arith), c.requires.1.last₂)

pub returns : goal.returns
returns c = ends (then (then (then c.first_half-k12.ensures c.pass_edge-k13.ensures (omega arith)) c.pass_edge-k14.ensures (omega arith)) c.last_half.ensures (omega arith)) (omega arith)
