-- Faces, boundary half-edges and starts at the vertices of four squares round one: computed. Assumes nothing.
use mathlib.Core.Path.{◌≡◌, refl}
use mathlib.Core.List.{[], ◌∷◌}
use Rattle.lists.specs.Tabulate.{tabulate}
use Rattle.search.specs.Search.{first_from, first, count}
use Rattle.topology.specs.Shape.{quads}
use Rattle.topology.specs.HalfEdge.{from, to, opposed, mate}
use Rattle.topology.specs.Boundary.{is_boundary_from}
use Rattle.topology.specs.Vertex.{leaves}
use Rattle.refusals.proofs.Nets.{grid}
use Rattle.vertexcounts.specs.Counts.{shares, start_from}

-- one face and one boundary half-edge at a corner, two faces and one beside it, four faces and none in the middle
grid_shares : tabulate 9 (λ p. shares quads grid p 16) ≡ 65537 ∷ 65538 ∷ 65537 ∷ 65538 ∷ 4 ∷ 65538 ∷ 65537 ∷ 65538 ∷ 65537 ∷ []
unfolding tabulate shares count leaves is_boundary_from mate opposed first first_from from to quads grid
grid_shares = refl

-- the boundary half-edge; in the middle the first half-edge
grid_starts : tabulate 9 (λ p. start_from quads grid p 0) ≡ 0 ∷ 4 ∷ 5 ∷ 3 ∷ 2 ∷ 13 ∷ 11 ∷ 10 ∷ 14 ∷ []
unfolding tabulate start_from leaves is_boundary_from mate opposed first first_from from to quads grid
grid_starts = refl
