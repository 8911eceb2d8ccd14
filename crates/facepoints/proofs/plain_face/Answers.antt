-- `plain_face` meets its contract. Assumes nothing.
use mathlib.Core.Path.{◌≡◌}
use mathlib.Core.List.{List}
use Prim.Native.Nat.{ℕ, ◌+◌, ◌^◌, ◌<◌}
use native.Mathlib.Nat.{add-zero}
use native.Mathlib.Omega.{arith}
use mir.Syntax.{w32}
use mir.Val.{SFits}
use mir.Facts.{to_z-of_z}
use borrow.Author.Rules.{rules}
use Rattle.curve.specs.Weights.{tension}
use Rattle.edgeentries.specs.Entry.{point_place}
use Rattle.facepoints.specs.Plain.{PlainAt, PlainEdge, plain_direction}
use Rattle.facepoints.proofs.Plain.{put-plain}
use Rattle.facepoints.proofs.plain_face.Goals as goal

-- what is read of an edge whose point stands at i
record Read (w : List ℕ) (i : ℕ) : Type 0 where
  few : i < 2 ^ 36
  on₀ : PlainAt w (i + 0)
  on₁ : PlainAt w (i + 2)
  on₂ : PlainAt w (i + 4)

read : (n : ℕ) (w : List ℕ) (e i : ℕ) → PlainEdge n w e → i ≡ point_place n e → Read w i
read n w e i p q = let z = add-zero i in let a = p.few in let b = p.number in record { few = omega arith; on₀ = rw (z, q) p.on₀; on₁ = rw q p.on₁; on₂ = rw q p.on₂ }

pub on_axes-c-requires : goal.on_axes-c-requires
on_axes-c-requires c =
    let e = c.requires.plain_edge in
    let o = read c.args.n c.args.work.now c.args.p c.point_place-o.result e.0 c.point_place-o.ensures in
    let u = read c.args.n c.args.work.now c.args.q c.point_place-u.result e.1 c.point_place-u.ensures in
    let v = read c.args.n c.args.work.now c.args.r c.point_place-v.result e.2 c.point_place-v.ensures in
    let w = read c.args.n c.args.work.now c.args.s c.point_place-w.result e.3 c.point_place-w.ensures in
    search rules

pub returns : goal.returns
returns c =
    let p = c.on_axes-c.result in
    let t = tension c.args.t in
    let l = c.args.work.now in
    let i = c.point_place-o.result in
    let j = c.point_place-u.result in
    let k = c.point_place-v.result in
    let m = c.point_place-w.result in
    let f₀ : SFits w32 p.x = search rules in
    let f₁ : SFits w32 p.y = search rules in
    let f₂ : SFits w32 p.z = search rules in
    let x : p.x ≡ plain_direction t l (i + 0) (j + 0) (k + 0) (m + 0) = search rules in
    let y : p.y ≡ plain_direction t l (i + 2) (j + 2) (k + 2) (m + 2) = search rules in
    let z : p.z ≡ plain_direction t l (i + 4) (j + 4) (k + 4) (m + 4) = search rules in
    let x' : p.x ≡ plain_direction t l i j k m = rw (add-zero i, add-zero j, add-zero k, add-zero m) at x in
    put-plain _ _ _ _ _ _ _ _ _ _ _ _ _ _ p.x p.y p.z c.point_place-o.ensures c.point_place-u.ensures c.point_place-v.ensures c.point_place-w.ensures x' y z (simp to_z-of_z at c.put_point.ensures)
