-- `fan_start` meets its contract. Assumes nothing.
use Rattle.topology.specs.Quads.{fan_place}
use Rattle.walks.proofs.fan_start.Goals as goal

pub returns : goal.returns
unfolding fan_place
returns c = record { side = c.start_of_fan.ensures.side; place = c.start_of_fan.ensures.place }
