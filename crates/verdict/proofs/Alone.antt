-- The check of a net by itself is that of a call of zero rounds with outputs that are long enough, whatever their lengths. Assumes nothing.
use mathlib.Core.Path.{◌≡◌, refl, sym, ap, ◌∙◌}
use mathlib.Core.Bool.{false}
use Prim.Native.Nat.{ℕ, ◌*◌, ◌/◌, ◌^◌, ◌≤◌}
use native.Mathlib.Omega.{arith}
use lib.ListN.{length}
use lib.Dec.{ltb}
use borrow.Author.Tests.{le-ltb}
use Rattle.bounds.specs.Bounds.{max_rounds}
use Rattle.nets.specs.Net.{ControlNet}
use Rattle.verdict.specs.Call.{Room, call, alone, quadrilaterals, alone_room}
use Rattle.verdict.specs.Verdict.{Verdict, or_else, refused_if, tables_verdict, size_verdict, room_verdict, limits_verdict, net_verdict, verdict}
use Rattle.verdict.proofs.Accepted.{else_same, sized_faces}

-- outputs that are long enough for g faces, and no letters asked for
pub record LongEnough (g : ℕ) (o : Room) : Type 0 where
  pub vertices : 12 * g ≤ o.vertices
  pub faces : 4 * g ≤ o.faces
  pub marks : 4 * g ≤ o.marks
  pub letters : o.asked ≡ false

-- 4 is then for the work table
room_is : (g : ℕ) (o : Room) → LongEnough g o → room_verdict g o ≡ refused_if 4 (ltb o.work (16 * g))
unfolding room_verdict
room_is g o r = rw (le-ltb o.vertices (12 * g) r.vertices, le-ltb o.faces (4 * g) r.faces, le-ltb o.marks (4 * g) r.marks, r.letters)

pub alone-any : (m : ControlNet) (t : ℕ) (o : Room) → LongEnough (quadrilaterals m.sides (length m.faces)) o → verdict (call 0 m t o) ≡ verdict (alone m t o.work)
unfolding verdict limits_verdict
alone-any m t o r =
    let f : ℕ = quadrilaterals m.sides (length m.faces) in
    let v : ℕ = length m.vertices / 3 in
    let e : f * 4 ^ 0 ≡ f = omega arith in
    let z : Room = alone_room o.work in
    ap (λ (c : Verdict). or_else (or_else c (refused_if 16 (ltb 4 t))) (net_verdict m))
    (else_same (refused_if 1 (ltb max_rounds 0)) (λ e₁.
    else_same (tables_verdict (length m.vertices) (length m.faces) m.sides (length m.marks)) (λ e₂.
    else_same (size_verdict v f (f * 4 ^ 0)) (λ e₃.
    let b = sized_faces v f (f * 4 ^ 0) e₃ in
    let x : LongEnough (f * 4 ^ 0) o = rw e r in
    let y : LongEnough (f * 4 ^ 0) z = record { vertices = omega arith; faces = omega arith; marks = omega arith; letters = refl } in
    room_is (f * 4 ^ 0) o x ∙ sym (room_is (f * 4 ^ 0) z y)))))
