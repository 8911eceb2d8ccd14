-- `plain_family` meets its contract. Assumes nothing.
use Rattle.familyedges.proofs.PlainFamily.{family_tested}
use Rattle.familyedges.proofs.plain_family.Goals as goal

pub returns-then-mated_sides : goal.returns-then-mated_sides
returns-then-mated_sides c = λ t. family_tested _ _ (c.mated_sides.ensures c.if-mated_sides.true) (c.ordinary_corners.ensures t)
