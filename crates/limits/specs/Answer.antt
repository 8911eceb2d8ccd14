-- The tables' lengths of a call, and the number of refined faces where it is within its limits.
use Rattle.std.specs.Prelude.{ℕ, ◌*◌, ◌^◌, ◌≤◌, ◌≡◌}
use Rattle.bounds.specs.Bounds.{max_rounds, max_faces, max_product}
use Rattle.verdict.specs.Call as call
use Rattle.limits.specs.declared.Lengths.{Lengths}
use Rattle.limits.specs.declared.Room.{Room}

abbrev pub room_in : Room → call.Room
room_in r = call.room r.vertices r.faces r.marks r.with_letters r.letters r.work

abbrev pub lengths_in : Lengths → call.Lengths
lengths_in n = call.lengths n.coordinates n.corners n.marks (room_in n.room)

-- g is the number of refined faces, where rounds and faces are within their limits
pub record FinalFaces (rounds faces g : ℕ) : Type 0 where
  pub few : g ≤ max_product
  pub final : rounds ≤ max_rounds → faces ≤ max_faces → g ≡ faces * 4 ^ rounds
