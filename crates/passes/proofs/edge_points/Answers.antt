-- `edge_points` meets its contract. Assumes nothing.
use Rattle.passes.proofs.EdgePass.{underway_none, all_edges}
use Rattle.passes.proofs.edge_points.Goals as goal

pub returns-then-later-clause-value : goal.returns-then-later-clause-value
returns-then-later-clause-value c = (all_edges _ _ _ _ _ _ _ c.requires.round _ _ _ c.edges_by_families.ensures).0

pub returns-then-later-clause-edges : goal.returns-then-later-clause-edges
returns-then-later-clause-edges c = (all_edges _ _ _ _ _ _ _ c.requires.round _ _ _ c.edges_by_families.ensures).1

pub side_points-requires-clause-underway : goal.side_points-requires-clause-underway
side_points-requires-clause-underway c = underway_none _ _ _ _ _ _ _ c.requires.round

pub returns-clause-value : goal.returns-clause-value
returns-clause-value c = (all_edges _ _ _ _ _ _ _ c.requires.round _ _ _ c.side_points.ensures).0

pub returns-clause-edges : goal.returns-clause-edges
returns-clause-edges c = (all_edges _ _ _ _ _ _ _ c.requires.round _ _ _ c.side_points.ensures).1
