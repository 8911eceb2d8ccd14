-- `closed_on` meets its contract: no step leaves its range. Assumes nothing.
use mathlib.Core.Path.{◌≡◌, ap, ap₂, ◌∙◌}
use mathlib.Core.List.{List}
use Prim.Native.Nat.{ℕ, ◌+◌, ◌*◌, ◌/◌, ◌^◌, ◌≤◌}
use native.Mathlib.Omega.{arith}
use borrow.Author.Rules.{rules}
use lib.IntN.{ℤ, pos, nat_abs, ◌+ℤ◌, ◌*ℤ◌}
use mir.Syntax.{w64}
use mir.Val.{SFits}
use mir.Facts.{to_z-of_z}
use Rattle.integers.specs.Within.{Within}
use Rattle.integers.proofs.AbsoluteValue.{abs-add, abs-mul}
use Rattle.integers.proofs.Range.{fits_abs}
use Rattle.rings.specs.Scales.{extrapolated_scale, valence_scale, extrapolated_range, coordinate_range}
use Rattle.nets.specs.Net.{axis}
use Rattle.coordinates.proofs.Values.{read_small}
use Rattle.coordinates.specs.Points.{on}
use Rattle.ringsums.specs.Sums.{weight_range, sum_range, weighed}
use Rattle.ringsums.proofs.Sums.{weighed_small}
use Rattle.ringsums.proofs.closed_on.Goals as goal
use Rattle.ringsums.proofs.closed_on.Goals.{After-on-4}

read : {B : ℕ} {r x : ℤ} → r ≡ x → nat_abs x ≤ B → nat_abs r ≤ B
read e h = let d = ap nat_abs e in omega arith

-- the last neighbour, over the scale
record Near (x : ℤ) : Type 0 where
  fits : SFits w64 (pos extrapolated_scale *ℤ x)
  small : nat_abs (pos extrapolated_scale *ℤ x) ≤ extrapolated_range

-- the sum of all
record Sizes (s u v : ℤ) : Type 0 where
  scaled : SFits w64 (pos extrapolated_scale *ℤ s)
  first : SFits w64 (pos extrapolated_scale *ℤ s +ℤ u)
  all : SFits w64 (pos extrapolated_scale *ℤ s +ℤ u +ℤ v)
  small : nat_abs (pos extrapolated_scale *ℤ s +ℤ u +ℤ v) ≤ 2 ^ 50

sizes : (s u v : ℤ) → nat_abs s ≤ sum_range → nat_abs u ≤ 2 * weight_range * extrapolated_range → nat_abs v ≤ 2 * weight_range * extrapolated_range → Sizes s u v
sizes s u v hs hu hv =
    let m = abs-mul (pos extrapolated_scale) s in
    let a = abs-add (pos extrapolated_scale *ℤ s) u in
    let b = abs-add (pos extrapolated_scale *ℤ s +ℤ u) v in
    record { scaled = fits_abs w64 _ (omega arith); first = fits_abs w64 _ (omega arith); all = fits_abs w64 _ (omega arith); small = omega arith }

-- in numbers
made : (n : ℕ) (w : List ℤ) (t : ℕ) (s s' x x' q p r u v z : ℤ) → u ≡ weighed w t (pos extrapolated_scale *ℤ x) q → x ≡ x' → v ≡ weighed w (t + 1) p r → s ≡ s' → z ≡ pos (valence_scale / n) *ℤ (pos extrapolated_scale *ℤ s +ℤ u +ℤ v)
    → z ≡ pos (valence_scale / n) *ℤ (pos extrapolated_scale *ℤ s' +ℤ weighed w t (pos extrapolated_scale *ℤ x') q +ℤ weighed w (t + 1) p r)
made n w t s s' x x' q p r u v z eu ex ev es ez = cc

near : (t : List ℤ) (a v : ℕ) (x : ℤ) → Within coordinate_range t → x ≡ axis t a v → Near x
near t a v x w e =
    let b = read_small t a v x w e in
    let m = abs-mul (pos extrapolated_scale) x in
    record { fits = fits_abs w64 _ (omega arith); small = omega arith }

-- the two places, and the sizes of all
record Places (c : After-on-4) : Type 0 where
  first : c.weigh-u.result ≡ weighed c.args.w.now c.args.t (pos extrapolated_scale *ℤ c.coordinate-x.result) (on c.args.q c.args.a)
  next : c.weigh-v.result ≡ weighed c.args.w.now (c.args.t + 1) (on c.args.p c.args.a) (on c.args.r c.args.a)
  sizes : Sizes c.on-4.result c.weigh-u.result c.weigh-v.result
  share : SFits w64 c.on-4.result

places : (c : After-on-4) → Places c
places c =
    let n = near _ _ _ c.coordinate-x.result c.requires.within.0 c.coordinate-x.ensures in
    let x : ℤ = pos extrapolated_scale *ℤ c.coordinate-x.result in
    let f₀ : SFits w64 c.coordinate-x.result = search rules in
    let f₁ : SFits w64 c.on.result = search rules in
    let f₂ : SFits w64 c.on-2.result = search rules in
    let f₃ : SFits w64 c.on-3.result = search rules in
    let f₄ : SFits w64 c.on-4.result = search rules in
    let g = n.fits in
    let w = c.args.w.now in
    let d = c.requires.bounded in
    let p = c.requires.le_n in
    let u : c.weigh-u.result ≡ weighed w c.args.t x c.on.result = simp to_z-of_z at c.weigh-u.ensures in
    let v : c.weigh-v.result ≡ weighed w (c.args.t + 1) c.on-2.result c.on-3.result = simp to_z-of_z at c.weigh-v.ensures in
    let a = weighed_small w c.args.t x c.on.result extrapolated_range c.requires.within.1 (omega arith) n.small (read c.on.ensures d.2) in
    let b = weighed_small w (c.args.t + 1) c.on-2.result c.on-3.result extrapolated_range c.requires.within.1 (omega arith) (read c.on-2.ensures d.1) (read c.on-3.ensures d.3) in
    let a' = ap nat_abs u in
    let b' = ap nat_abs v in
    record {
      first = u ∙ ap (weighed w c.args.t x) c.on.ensures;
      next = v ∙ ap₂ (weighed w (c.args.t + 1)) c.on-2.ensures c.on-3.ensures;
      sizes = sizes c.on-4.result c.weigh-u.result c.weigh-v.result (read c.on-4.ensures d.0) (omega arith) (omega arith);
      share = f₄;
    }

pub overflow_mul-x : goal.overflow_mul-x
overflow_mul-x c = let f : SFits w64 c.coordinate-x.result = search rules in let g = (near _ _ _ c.coordinate-x.result c.requires.within.0 c.coordinate-x.ensures).fits in simp to_z-of_z g

pub weigh-u-requires : goal.weigh-u-requires
weigh-u-requires c =
    let n = near _ _ _ c.coordinate-x.result c.requires.within.0 c.coordinate-x.ensures in
    let f : SFits w64 c.coordinate-x.result = search rules in
    let q : SFits w64 c.on.result = search rules in
    let g = n.fits in
    let p = c.requires.le_n in
    simp to_z-of_z (c.requires.within.1, omega arith, n.small, read c.on.ensures c.requires.bounded.2)

pub weigh-v-requires : goal.weigh-v-requires
weigh-v-requires c =
    let p : SFits w64 c.on-2.result = search rules in
    let r : SFits w64 c.on-3.result = search rules in
    let d = c.requires.bounded in
    let k = c.requires.le_n in
    simp to_z-of_z (c.requires.within.1, omega arith, read c.on-2.ensures d.1, read c.on-3.ensures d.3)

pub overflow_mul-on : goal.overflow_mul-on
overflow_mul-on c = let k = places (goal.at.overflow_mul-on c).After-on-4 in let f = k.share in simp to_z-of_z k.sizes.scaled

pub overflow_add-on : goal.overflow_add-on
overflow_add-on c =
    let k = places (goal.at.overflow_add-on c).After-on-4 in
    let f = k.share in
    let u : SFits w64 c.weigh-u.result = search rules in
    let g = k.sizes.scaled in
    simp to_z-of_z k.sizes.first

pub overflow_add-on-2 : goal.overflow_add-on-2
overflow_add-on-2 c =
    let k = places (goal.at.overflow_add-on-2 c).After-on-4 in
    let f = k.share in
    let u : SFits w64 c.weigh-u.result = search rules in
    let v : SFits w64 c.weigh-v.result = search rules in
    let g = k.sizes.scaled in
    let h = k.sizes.first in
    simp to_z-of_z k.sizes.all

pub times_share-requires : goal.times_share-requires
times_share-requires c =
    let k = places (goal.at.times_share-requires c).After-on-4 in
    let f = k.share in
    let u : SFits w64 c.weigh-u.result = search rules in
    let v : SFits w64 c.weigh-v.result = search rules in
    let g = k.sizes.scaled in
    let h = k.sizes.first in
    let i = k.sizes.all in
    simp to_z-of_z (c.requires.le_n.0, c.requires.le_n.1, k.sizes.small)

pub returns : goal.returns
returns c =
    let k = places (goal.at.returns c).After-on-4 in
    let f = k.share in
    let u : SFits w64 c.weigh-u.result = search rules in
    let v : SFits w64 c.weigh-v.result = search rules in
    let z : SFits w64 c.times_share.result = search rules in
    let g = k.sizes.scaled in
    let h = k.sizes.first in
    let i = k.sizes.all in
    simp to_z-of_z
    (made c.args.n c.args.w.now c.args.t c.on-4.result _ c.coordinate-x.result _ (on c.args.q c.args.a) (on c.args.p c.args.a) (on c.args.r c.args.a) c.weigh-u.result c.weigh-v.result c.times_share.result
    k.first c.coordinate-x.ensures k.next c.on-4.ensures (simp to_z-of_z at c.times_share.ensures))
