-- What the answers of a refining call mean.
use Rattle.std.specs.Prelude as std
use Rattle.std.specs.Prelude.{List, ℕ, ℤ, Ok, Err}
use Rattle.outcome.specs.Outcome.{Result, refined_to, refused_with, Outcome, outcome_on}
use Rattle.reasons.specs.declared.Refusal.{Refusal}
use Rattle.reasons.specs.Reasons.{number}
use Rattle.refine.specs.declared.RefinedCounts.{RefinedCounts}

-- the counts of vertices and faces, or the papers' number and place
abbrev pub result_of : std.Result RefinedCounts Refusal → Result
result_of (Ok n) = refined_to n.vertices n.faces
result_of (Err x) = refused_with (number x.reason) x.place

-- the caller's tally after the call: the answer's, or on a refusal the one that was passed
abbrev pub points_after : std.Result RefinedCounts Refusal → (points : ℕ) → ℕ
points_after (Ok n) points = n.points
points_after (Err x) points = points

-- the answer, the caller's tally, and the tables as the call leaves them; the tally that was passed is `points`
abbrev pub answered : std.Result RefinedCounts Refusal → (points : ℕ) (out_vertices : List ℤ) (out_faces out_marks letters work : List ℕ) → Outcome
answered r points = outcome_on (result_of r) (points_after r points)
