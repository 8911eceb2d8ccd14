-- What the answer of the seam test means.
use Rattle.std.specs.Prelude.{List, ℕ, Result, Ok, Err}
use Rattle.nets.specs.Drawn.{drawn}
use Rattle.seamtest.specs.SeamTest as seamtest
use Rattle.seamtest.specs.SeamTest.{seam_side, SeamTested, seam_tested_as}
use Rattle.reasons.specs.declared.Refusal.{Refusal}
use Rattle.reasons.specs.Reasons.{verdict_of}
use Rattle.sharing.specs.declared.SeamSide.{SeamSide}

-- the side that the tables of a struct hold
abbrev pub side : SeamSide → seamtest.SeamSide
side a = seam_side (drawn a.net) a.tension a.start

-- 0 on a refusal
abbrev pub edges_in : Result ℕ Refusal → ℕ
edges_in (Ok edges) = edges
edges_in (Err x) = 0

-- the answer with the work table as it is left
abbrev pub shared_as : Result ℕ Refusal → List ℕ → SeamTested
shared_as r w = seam_tested_as (verdict_of r) (edges_in r) w
