-- `vertex_sum` meets its contract: the sums of its first vertices are small. Assumes nothing.
use mathlib.Core.Path.{◌≡◌, ap₂, ◌∙◌}
use mathlib.Core.List.{List}
use Prim.Native.Nat.{ℕ, ◌+◌, ◌<◌}
use native.Mathlib.Omega.{arith}
use lib.IntN.{ℤ, ◌+ℤ◌}
use mir.Syntax.{w64}
use mir.Val.{SFits}
use mir.Facts.{to_z-of_z}
use borrow.Author.Rules.{rules}
use Rattle.integers.specs.Within.{Within}
use Rattle.integers.specs.Sum.{sum}
use Rattle.integers.proofs.Range.{fits_abs}
use Rattle.integers.proofs.Sum.{sum_none, sum_more}
use Rattle.rings.specs.Scales.{coordinate_range}
use Rattle.ringsums.proofs.Sums.{vertex_of, vertices_small}
use Rattle.ringsums.proofs.vertex_sum.Goals as goal

-- one more
record More (t : List ℤ) (a : ℕ) (l : List ℕ) (i : ℕ) (total x : ℤ) : Type 0 where
  sum : total +ℤ x ≡ sum (i + 1) (vertex_of t a l)
  fits : SFits w64 (total +ℤ x)

more : (t : List ℤ) (a : ℕ) (l : List ℕ) (i : ℕ) (total x : ℤ) → Within coordinate_range t → i < 5 → total ≡ sum i (vertex_of t a l) → x ≡ vertex_of t a l i → More t a l i total x
more t a l i total x w h e f =
    let g : total +ℤ x ≡ sum (i + 1) (vertex_of t a l) = ap₂ ◌+ℤ◌ e f ∙ sum_more i (vertex_of t a l) in
    let b = vertices_small t a l (i + 1) w in
    record { sum = g; fits = rw g (fits_abs w64 (sum (i + 1) (vertex_of t a l)) (omega arith)) }

pub loop-v-init : goal.loop-v-init
loop-v-init c = sum_none (vertex_of c.args.points.now c.args.a c.args.l.now)

pub overflow_add-total : goal.overflow_add-total
overflow_add-total c =
    let f : SFits w64 c.coordinate-total.result = search rules in
    let m = more c.args.points.now c.args.a c.args.l.now c.loop-v.v-index _ _ c.requires.0 (omega arith) c.loop-v.invariant c.coordinate-total.ensures in
    simp to_z-of_z m.fits

pub loop-v-preserved : goal.loop-v-preserved
loop-v-preserved c =
    let f : SFits w64 c.coordinate-total.result = search rules in
    let m = more c.args.points.now c.args.a c.args.l.now c.loop-v.v-index _ _ c.requires.0 (omega arith) c.loop-v.invariant c.coordinate-total.ensures in
    let g = m.fits in
    simp to_z-of_z m.sum
