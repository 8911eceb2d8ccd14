-- What a check gives and leaves behind.
use Rattle.std.specs.Prelude.{List, ℕ}
use Rattle.verdict.specs.Call.{Call}
use Rattle.verdict.specs.Verdict.{Verdict, verdict, work_after}

-- the verdict, and the work table as the check returns
pub record Checked : Type 0 where
  pub verdict : Verdict
  pub work : List ℕ

abbrev pub checked_as : Verdict → List ℕ → Checked
checked_as v w = record { verdict = v; work = w }

-- what a check of the call c with the work table w gives
unfoldable pub checked : Call → List ℕ → Checked
checked c w = checked_as (verdict c) (work_after c w)
