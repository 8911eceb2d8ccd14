-- `family_edges` meets its contract. Assumes nothing.
use native.Mathlib.Omega.{arith}
use Rattle.familylines.proofs.Going.{turn_now}
use Rattle.familyedges.proofs.family_edges.Goals as goal

pub invariant_of-mesh : goal.invariant_of-mesh
invariant_of-mesh c = let a = c.requires.1.last₂.lt in record { connectivity = (turn_now _ _ _ _ _ _ _ c.requires.0 (omega arith)).ready.table }
