-- A net moved by whole numbers. Paper 02: "Yards place a panel by adding whole counts to it."
use Rattle.std.specs.Prelude.{List, ℕ, zero, suc, ◌%◌, ℤ, pos, ◌+ℤ◌, length, get_or}
use Rattle.lists.specs.Tabulate.{tabulate}
use Rattle.curve.specs.Curve.{Point}
use Rattle.nets.specs.Net.{Net, net, ControlNet, control_net}

-- the coordinate of a point on an axis: 0, 1 and 2 are x, y and z
unfoldable pub on_axis : Point → ℕ → ℤ
on_axis s zero = s.x
on_axis s (suc zero) = s.y
on_axis s (suc (suc a)) = s.z

-- s added to each vertex: the number at i of a vertex table stands on the axis i % 3, whatever the table's length
unfoldable pub moved_vertices : Point → List ℤ → List ℤ
moved_vertices s vs = tabulate (length vs) (λ (i : ℕ). get_or vs i (pos 0) +ℤ on_axis s (i % 3))

-- corners, side counts and marks stay
abbrev pub moved : Point → Net → Net
moved s m = net (moved_vertices s m.vertices) m.faces m.marks

abbrev pub moved_control : Point → ControlNet → ControlNet
moved_control s m = control_net (moved_vertices s m.vertices) m.faces m.sides m.marks
