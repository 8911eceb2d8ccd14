-- `put_family` meets its contract: by one direction or face by face. Assumes nothing.
use Rattle.passes.proofs.FacePass.{put_four, family_written}
use Rattle.passes.proofs.put_family.Goals as goal

pub returns-then-plain_family-clause-points : goal.returns-then-plain_family-clause-points
returns-then-plain_family-clause-points c = put_four _ _ _ _ c.requires.part.room c.refine_family.ensures.out_after

pub returns-then-plain_family-clause-corners : goal.returns-then-plain_family-clause-corners
returns-then-plain_family-clause-corners c = family_written _ _ _ _ _ _ _ c.refine_family.ensures.written
