-- Without side counts the definitions read as paper 01 does. Assumes nothing.
use mathlib.Core.Path.{refl}
use Rattle.polygons.specs.Polygons.{shape_of}
use Rattle.splitting.specs.Splitting.{start_net}
use Rattle.verdict.specs.Verdict.{tables_verdict}
use Rattle.outcome.specs.AsBefore.{AsBefore}

pub as_before : AsBefore
unfolding shape_of start_net tables_verdict
as_before = record { shape = refl; faces = λ n. refl; tables = λ v n m. refl; start = λ m. refl }
