-- `family_at` meets its contract. Assumes nothing.
use Rattle.familyedges.proofs.PlainFamily.{mates_some}
use Rattle.familyedges.proofs.family_at.Goals as goal

pub beyond-requires-clause-mated : goal.beyond-requires-clause-mated
beyond-requires-clause-mated c = (mates_some _ _ c.requires).0

pub beyond-requires-2-clause-mated : goal.beyond-requires-2-clause-mated
beyond-requires-2-clause-mated c = (mates_some _ _ c.requires).1

pub beyond-requires-3-clause-mated : goal.beyond-requires-3-clause-mated
beyond-requires-3-clause-mated c = (mates_some _ _ c.requires).2

pub beyond-requires-4-clause-mated : goal.beyond-requires-4-clause-mated
beyond-requires-4-clause-mated c = (mates_some _ _ c.requires).3
