-- What admitting the net of a call gives, and leaves in the work table.
use Rattle.std.specs.Prelude.{◌≡◌, List, ℕ, ◌*◌, length, drop, Result, Ok, Err}
use Rattle.polygons.specs.Polygons.{shape_of}
use Rattle.halfedges.specs.Tables.{MateTableOf}
use Rattle.sidetable.specs.Table.{Shaped}
use Rattle.verdict.specs.Call.{Call, final_faces}
use Rattle.verdict.specs.Verdict.{accepted, refused, verdict, work_after}
use Rattle.reasons.specs.declared.Refusal.{Refusal}
use Rattle.reasons.specs.Reasons.{number}

-- the check refuses the call c, and leaves w' of its work table w
pub record RefusedCall (c : Call) (w : List ℕ) (number place : ℕ) (w' : List ℕ) : Type 0 where
  pub refuses : verdict c ≡ refused number place
  pub work : w' ≡ work_after c w

-- the check accepts the call c, g is its number of refined faces, and the work table w starts with the mates; where there are side counts, it holds the shape
pub record AdmittedCall (c : Call) (g : ℕ) (w : List ℕ) : Type 0 where
  pub accepts : verdict c ≡ accepted
  pub final : g ≡ final_faces c
  pub mated : MateTableOf (shape_of c.net.sides) c.net.faces w
  pub shaped : Shaped c.net.sides (length c.net.faces) w

-- "Work numbers beyond 16G are never touched." Open, and may differ between correct programs: those up to 16G but the mates and the shape, where the
-- call is admitted
abbrev pub Admits : Call → List ℕ → Result ℕ Refusal → List ℕ → Type 0
Admits c w (Err x) w' = RefusedCall c w (number x.reason) x.place w'
Admits c w (Ok g) w' = AdmittedCall c g w' × (drop (16 * g) w' ≡ drop (16 * g) w)
