-- `decimal::put_integer` meets its contract. Assumes nothing.
use mathlib.Core.Path.{◌≡◌, ap, ◌∙◌}
use native.Mathlib.Omega.{arith}
use lib.IntN.{nat_abs}
use lib.ListN.{length, length-set}
use mir.Facts.{to_z-of_z}
use Rattle.decimalform.proofs.Writing.{text_negative, text_positive, stored_negative, stored_positive}
use Rattle.decimal.proofs.put_integer.Goals as goal

pub bounds-out-at : goal.bounds-out-at
bounds-out-at c =
    let f = c.ranges.z in
    let t = simp to_z-of_z at c.if-z-lt0.true in
    let l = ap length (text_negative c.args.z t) in
    omega arith

pub put_natural-requires : goal.put_natural-requires
put_natural-requires c =
    let f = c.ranges.z in
    let t = simp to_z-of_z at c.if-z-lt0.true in
    let l = ap length (text_negative c.args.z t) in
    let e : c.from-m.result ≡ nat_abs c.args.z = c.from-m.ensures ∙ simp to_z-of_z at c.unsigned_abs.ensures.value in
    rw e (simp length-set (omega arith))

pub returns-then-z-lt0 : goal.returns-then-z-lt0
returns-then-z-lt0 c =
    let f = c.ranges.z in
    stored_negative _ _ _ _ _ c.args.z (simp to_z-of_z at c.if-z-lt0.true) (c.from-m.ensures ∙ simp to_z-of_z at c.unsigned_abs.ensures.value) c.put_natural.ensures

pub put_natural-requires-2 : goal.put_natural-requires-2
put_natural-requires-2 c =
    let f = c.ranges.z in
    let t = simp to_z-of_z at c.if-z-lt0.false in
    let l = ap length (text_positive c.args.z t) in
    let e : c.from-m.result ≡ nat_abs c.args.z = c.from-m.ensures ∙ simp to_z-of_z at c.unsigned_abs.ensures.value in
    rw e (omega arith)

pub returns : goal.returns
returns c =
    let f = c.ranges.z in
    stored_positive _ _ _ _ _ c.args.z (simp to_z-of_z at c.if-z-lt0.false) (c.from-m.ensures ∙ simp to_z-of_z at c.unsigned_abs.ensures.value) c.put_natural-2.ensures
