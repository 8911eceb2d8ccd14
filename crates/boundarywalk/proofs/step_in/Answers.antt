-- `step_in` meets its contract. Assumes nothing.
use Rattle.topology.specs.Boundary.{boundary_step}
use Rattle.boundarywalk.proofs.step_in.Goals as goal

pub returns-then-against : goal.returns-then-against
unfolding boundary_step
returns-then-against c = let t = c.if-against.true in rw t c.back.ensures

pub returns : goal.returns
unfolding boundary_step
returns c = let t = c.if-against.false in rw t c.along.ensures
