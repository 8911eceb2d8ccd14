-- `weighted_sum` meets its contract: after i turns the sums of the first i faces are made, which are small. Assumes nothing.
use mathlib.Core.Path.{◌≡◌, ap, ap₂, ◌∙◌}
use mathlib.Core.List.{List}
use Prim.Native.Nat.{ℕ, ◌+◌, ◌≤◌, ◌<◌}
use native.Mathlib.Omega.{arith}
use lib.IntN.{ℤ, ◌+ℤ◌}
use lib.ListN.{get_or}
use mir.Syntax.{w64}
use mir.Val.{SFits, to_z}
use mir.Facts.{to_z-of_z}
use borrow.Author.Rules.{rules}
use Rattle.integers.specs.Within.{Within, WithinFirst}
use Rattle.integers.specs.Sum.{sum}
use Rattle.integers.proofs.Range.{fits_abs}
use Rattle.integers.proofs.Sum.{sum_none, sum_more}
use Rattle.nets.specs.Net.{axis}
use Rattle.rings.specs.Scales.{coordinate_range}
use Rattle.ringsums.specs.Sums.{weight_range, weighed, place_on}
use Rattle.ringsums.proofs.Sums.{place_lt, term, terms_small}
use Rattle.ringsums.proofs.weighted_sum.Goals as goal
use Rattle.ringsums.proofs.weighted_sum.Goals.{After-on_axes-s}

-- the sum on an axis over i faces, and over one more
module _ (t w : List ℤ) (l k : List ℕ) (n e a : ℕ) where
  abbrev on : ℕ → ℤ
  on = term w n e (axis t a) l k

  fits : (i : ℕ) → Within coordinate_range t → WithinFirst 16 weight_range w → i ≤ n → n ≤ 8 → e ≤ n → SFits w64 (sum i on)
  fits i b s h m p = let x = terms_small w n e i t a l k s b h m p in fits_abs w64 _ (omega arith)

  record More (i : ℕ) (z r : ℤ) : Type 0 where
    sum : z +ℤ r ≡ sum (i + 1) on
    fits : SFits w64 (z +ℤ r)

  more : (m i d : ℕ) (z r : ℤ) → Within coordinate_range t → WithinFirst 16 weight_range w → m ≤ n → n ≤ 8 → e ≤ n → i < m → z ≡ sum i on → d ≡ place_on n (e + i)
      → r ≡ weighed w d (axis t a (get_or l i 0)) (axis t a (get_or k i 0)) → More i z r
  more m i d z r b s mn n8 p im h g f =
      let q : r ≡ on i = rw g at f in
      let x : z +ℤ r ≡ sum (i + 1) on = ap₂ ◌+ℤ◌ h q ∙ sum_more i on in
      record { sum = x; fits = rw x (fits (i + 1) b s (omega arith) n8 p) }

pub loop-i-init : goal.loop-i-init
loop-i-init c = record { on₀ = sum_none _; on₁ = sum_none _; on₂ = sum_none _ }

pub on_axes-s-requires : goal.on_axes-s-requires
on_axes-s-requires c =
    let f = c.requires.fan_in.3 in
    let b = place_lt c.args.n (c.args.e + c.loop-i.i) (omega arith) in
    let e = c.place_on-d.ensures in
    let d : c.place_on-d.result < 8 = omega arith in
    let p = f.neighbours.room c.loop-i.i (omega arith) in
    let q = f.opposites.room c.loop-i.i (omega arith) in
    search rules

-- a face more on axis a, where it adds r
abbrev Added : After-on_axes-s → (a : ℕ) (z r : ℤ) → Type 0
Added c a z r = More c.args.points.now c.args.w.now c.args.fan.now.neighbours c.args.fan.now.opposites c.args.n c.args.e a c.loop-i.i z r

added : (c : After-on_axes-s) (a : ℕ) (z r : ℤ) → z ≡ sum c.loop-i.i (on c.args.points.now c.args.w.now c.args.fan.now.neighbours c.args.fan.now.opposites c.args.n c.args.e a)
    → r ≡ weighed c.args.w.now c.place_on-d.result (axis c.args.points.now a (get_or c.args.fan.now.neighbours c.loop-i.i 0)) (axis c.args.points.now a (get_or c.args.fan.now.opposites c.loop-i.i 0)) → Added c a z r
added c a z r i e =
    let p = c.requires.fan_in in
    let w = c.requires.within in
    more c.args.points.now c.args.w.now c.args.fan.now.neighbours c.args.fan.now.opposites c.args.n c.args.e a c.args.fan.now.count c.loop-i.i c.place_on-d.result z r w.0 w.1 p.0 p.1 p.2 (omega arith) i c.place_on-d.ensures e

on-x : (c : After-on_axes-s) → Added c 0 (to_z w64 c.loop-i.x-bits) c.on_axes-s.result.x
on-x c = added c 0 _ c.on_axes-s.result.x c.loop-i.invariant.on₀ (search rules)

on-y : (c : After-on_axes-s) → Added c 1 (to_z w64 c.loop-i.y-bits) c.on_axes-s.result.y
on-y c = added c 1 _ c.on_axes-s.result.y c.loop-i.invariant.on₁ (search rules)

on-z : (c : After-on_axes-s) → Added c 2 (to_z w64 c.loop-i.z-bits) c.on_axes-s.result.z
on-z c = added c 2 _ c.on_axes-s.result.z c.loop-i.invariant.on₂ (search rules)

pub overflow_add-x : goal.overflow_add-x
overflow_add-x c = let f : SFits w64 c.on_axes-s.result.x = search rules in simp to_z-of_z (on-x (goal.at.overflow_add-x c).After-on_axes-s).fits

pub overflow_add-y : goal.overflow_add-y
overflow_add-y c = let f : SFits w64 c.on_axes-s.result.y = search rules in simp to_z-of_z (on-y (goal.at.overflow_add-y c).After-on_axes-s).fits

pub overflow_add-z : goal.overflow_add-z
overflow_add-z c = let f : SFits w64 c.on_axes-s.result.z = search rules in simp to_z-of_z (on-z (goal.at.overflow_add-z c).After-on_axes-s).fits

pub loop-i-preserved : goal.loop-i-preserved
loop-i-preserved c =
    let d = (goal.at.loop-i-preserved c).After-on_axes-s in
    let f₁ : SFits w64 c.on_axes-s.result.x = search rules in
    let f₂ : SFits w64 c.on_axes-s.result.y = search rules in
    let f₃ : SFits w64 c.on_axes-s.result.z = search rules in
    let m₁ = on-x d in
    let m₂ = on-y d in
    let m₃ = on-z d in
    let g₁ = m₁.fits in
    let g₂ = m₂.fits in
    let g₃ = m₃.fits in
    record { on₀ = simp to_z-of_z m₁.sum; on₁ = simp to_z-of_z m₂.sum; on₂ = simp to_z-of_z m₃.sum }

pub returns : goal.returns
returns c =
    let v = c.loop-i.invariant in
    let e : c.loop-i.i ≡ c.args.fan.now.count = omega arith in
    let s : ℕ → ℕ → ℤ = λ a i. sum i (on c.args.points.now c.args.w.now c.args.fan.now.neighbours c.args.fan.now.opposites c.args.n c.args.e a) in
    record { on₀ = v.on₀ ∙ ap (s 0) e; on₁ = v.on₁ ∙ ap (s 1) e; on₂ = v.on₂ ∙ ap (s 2) e }
