-- What the refusals of counts leave to be read. Assumes nothing.
use mathlib.Core.Path.{◌≡◌, refl, ap}
use mathlib.Core.Bool.{Bool, true, false, ◌||◌}
use mathlib.Core.List.{[]}
use Prim.Native.Nat.{ℕ, ◌*◌, ◌/◌, ◌^◌, ◌≤◌}
use native.Mathlib.Nat.{one-le-pow, mul-le-mul_left}
use native.Mathlib.Omega.{arith}
use lib.Dec.{ltb, lit≤}
use borrow.Author.Tests.{ltb-false}
use Rattle.verdict.specs.Call.{Room, room, lengths}
use Rattle.verdict.specs.Verdict.{accepted, refused_if, room_verdict, limits_verdict}
use Rattle.verdict.proofs.Accepted.{or_both, if_false, within_if}
use Rattle.textform.specs.Limits.{program_vertices, program_faces}
use Rattle.textform.specs.Form.{TextCounts}
use Rattle.readingform.specs.Loaded.{program_room, counts_verdict}

-- a net that the program's tables hold
pub record Served (v f : ℕ) : Type 0 where
  pub vertices : v ≤ program_vertices
  pub faces : f ≤ program_faces

pub passed_served : (n : TextCounts) → counts_verdict n ≡ accepted → Served n.vertices n.faces
unfolding counts_verdict
passed_served n e =
    let v = n.vertices in
    let f = n.faces in
    let a = or_both _ _ e in
    let w = (within_if n.rounds [] (lengths (3 * v) (4 * f) v program_room) a.0).room_faces in
    let p : 1 ≤ 4 ^ n.rounds = one-le-pow n.rounds 4 (lit≤ tt) in
    let g : 4 * f / 4 * 1 ≤ 4 * f / 4 * 4 ^ n.rounds = mul-le-mul_left (4 * f / 4) p in
    record { vertices = ltb-false program_vertices v (if_false 4 _ a.1); faces = omega arith }

-- ---- letters have room where marks have it, so it makes no difference whether they are asked for
abbrev pub room_asked : Bool → Room
room_asked rule = room (12 * program_faces) (4 * program_faces) (4 * program_faces) rule (4 * program_faces) (16 * program_faces)

again : (a b : Bool) → (a || b || b || false) ≡ (a || b || b || b)
again true b = refl
again false true = refl
again false false = refl

room_either : (rule : Bool) (g : ℕ) → room_verdict g (room_asked rule) ≡ room_verdict g program_room
unfolding room_verdict
room_either true g = refl
room_either false g = ap (λ (t : Bool). refused_if 4 (t || ltb (16 * program_faces) (16 * g))) (again (ltb (12 * program_faces) (12 * g)) (ltb (4 * program_faces) (4 * g)))

pub limits_either : (rule : Bool) (k coordinates corners marks : ℕ)
    → limits_verdict k [] (lengths coordinates corners marks (room_asked rule)) ≡ limits_verdict k [] (lengths coordinates corners marks program_room)
unfolding limits_verdict
limits_either rule k coordinates corners marks = rw (room_either rule (corners / 4 * 4 ^ k))
