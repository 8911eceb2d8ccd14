-- `refine_family` meets its contract. Assumes nothing.
use Rattle.familyfaces.proofs.Family.{family_corners}
use Rattle.familyfaces.proofs.FamilyEdges.refine_family.Goals as goal

pub returns-clause-written : goal.returns-clause-written
returns-clause-written c = family_corners _ _ _ _ _ _ _ _ _ _ c.refine_face.ensures c.refine_face-2.ensures c.refine_face-3.ensures c.refine_face-4.ensures
