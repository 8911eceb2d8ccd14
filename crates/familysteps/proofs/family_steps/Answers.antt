-- `family_steps` meets its contract. Assumes nothing.
use native.Mathlib.Omega.{arith}
use Rattle.familysteps.proofs.Steps.{goes, then}
use Rattle.familysteps.proofs.family_steps.Goals as goal

pub second_face-k7-requires : goal.second_face-k7-requires
second_face-k7-requires c = (goes c.requires.0 c.first_face-k3.ensures (omega arith), c.requires.1)

pub third_face-k11-requires : goal.third_face-k11-requires
third_face-k11-requires c = (goes c.requires.0 (then c.first_face-k3.ensures c.second_face-k7.ensures (omega arith)) (omega arith), c.requires.1)

pub fourth_face-requires : goal.fourth_face-requires
fourth_face-requires c = (goes c.requires.0 (then (then c.first_face-k3.ensures c.second_face-k7.ensures (omega arith)) c.third_face-k11.ensures (omega arith)) (omega arith), c.requires.1)

pub returns : goal.returns
returns c = then (then (then c.first_face-k3.ensures c.second_face-k7.ensures (omega arith)) c.third_face-k11.ensures (omega arith)) c.fourth_face.ensures (omega arith)
