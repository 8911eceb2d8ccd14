-- What the steps of the check ask of the tables and leave in the work table.
use Rattle.std.specs.Prelude.{◌≡◌, List, ℕ, ◌*◌, ◌≤◌, length, drop, Option, None, Some, Result}
use Rattle.bounds.specs.Bounds.{max_corners}
use Rattle.search.specs.Search.{first}
use Rattle.refusals.specs.Refusals.{isolated}
use Rattle.polygons.specs.Polygons.{shape_of}
use Rattle.halfedges.specs.Tables.{MateTableOf}
use Rattle.sidetable.specs.Table.{Shaped}
use Rattle.verdict.specs.Verdict.{Verdict, accepted, refused}
use Rattle.reasons.specs.declared.Refusal.{Refusal}
use Rattle.reasons.specs.Reasons.{verdict_of}

-- refusal r at a place, where there is one
abbrev pub refused_where : ℕ → Option ℕ → Verdict
refused_where r None = accepted
refused_where r (Some place) = refused r place

-- corners l of faces with the side counts s, at most as many as those of 4,096 quadrilaterals, and a work table w with room for four numbers per half-edge, and with the shape
pub record CheckTables (s l w : List ℕ) : Type 0 where
  pub shaped : Shaped s (length l) w
  pub few : length l ≤ max_corners
  pub room : 4 * length l ≤ length w

-- each of v vertices is in a face
pub record Joined (l : List ℕ) (v : ℕ) : Type 0 where
  pub few : v ≤ length l
  pub none : first (isolated l) v ≡ v

-- the answer r means the verdict v; on acceptance the work table starts with the mates; past four numbers per half-edge it is as found.
-- Open, and may differ between correct programs: the first 4n numbers on a refusal, those from n up to 4n on acceptance
pub record Examined (v : Verdict) (s l w : List ℕ) (r : Result (Unit {0}) Refusal) (w' : List ℕ) : Type 0 where
  pub verdict : verdict_of r ≡ v
  pub mated : verdict_of r ≡ accepted → MateTableOf (shape_of s) l w'
  pub rest : drop (4 * length l) w' ≡ drop (4 * length l) w
