-- The net that the tables of a struct hold.
use Rattle.nets.specs.Net.{ControlNet, control_net}
use Rattle.nets.specs.declared.Net.{Net}

abbrev pub drawn : Net → ControlNet
drawn n = control_net n.vertices.now n.faces.now n.sides.now n.marks.now
