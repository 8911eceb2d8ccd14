-- A moved net, computed. Assumes nothing.
use mathlib.Core.Path.{◌≡◌, refl}
use mathlib.Core.List.{[], ◌∷◌}
use lib.IntN.{pos, negsuc}
use Rattle.lists.specs.Tabulate.{tabulate}
use Rattle.curve.specs.Curve.{Point}
use Rattle.nets.specs.Net.{control_net}
use Rattle.nets.specs.Moved.{on_axis, moved_vertices, moved_control}

-- 10, -20 and 3 are added
by : Point
by = record { x = pos 10; y = negsuc 19; z = pos 3 }

-- two vertices, and one number more than they have
two_vertices : moved_vertices by (pos 0 ∷ pos 0 ∷ pos 0 ∷ pos 5 ∷ pos 7 ∷ negsuc 8 ∷ pos 1 ∷ []) ≡ pos 10 ∷ negsuc 19 ∷ pos 3 ∷ pos 15 ∷ negsuc 12 ∷ negsuc 5 ∷ pos 11 ∷ []
unfolding by tabulate on_axis moved_vertices
two_vertices = refl

-- all else stays
one_face : moved_control by (control_net (pos 1 ∷ pos 2 ∷ pos 3 ∷ []) (0 ∷ 0 ∷ 0 ∷ []) (3 ∷ []) (1 ∷ [])) ≡ control_net (pos 11 ∷ negsuc 17 ∷ pos 6 ∷ []) (0 ∷ 0 ∷ 0 ∷ []) (3 ∷ []) (1 ∷ [])
unfolding by tabulate on_axis moved_vertices
one_face = refl
