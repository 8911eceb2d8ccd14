-- `rounded_point` meets its contract, in both cases. Assumes nothing.
use mathlib.Core.Path.{◌≡◌, ◌∙◌}
use borrow.Author.Rules.{rules}
use lib.IntN.{nat_abs}
use Prim.Native.Nat.{◌^◌, ◌≤◌}
use mir.Syntax.{w64}
use mir.Val.{SFits}
use mir.Facts.{to_z-of_z}
use Rattle.rounding.specs.Rounding.{round}
use Rattle.curve.specs.Weights.{tension}
use Rattle.rings.specs.Scales.{edge_scale, edge_range}
use Rattle.edgerounding.proofs.Rounded.{wide_is, wide_range, plain_is, plain_range, plain_small, round-plain}
use Rattle.edgerounding.proofs.rounded_point.Goals as goal

pub map-requires : goal.map-requires
map-requires c =
    let e = c.if-flag-eq-WIDE.true in
    let p = c.args.point in
    let t = c.args.t in
    let k = c.args.flag in
    let low : t ≤ 4 = c.requires.1 in
    let f₀ : SFits w64 p.x = search rules in
    let f₁ : SFits w64 p.y = search rules in
    let f₂ : SFits w64 p.z = search rules in
    let x : nat_abs p.x ≤ edge_range (tension t) = wide_range t k e p.x c.requires.0.on₀ in
    let y : nat_abs p.y ≤ edge_range (tension t) = wide_range t k e p.y c.requires.0.on₁ in
    let z : nat_abs p.z ≤ edge_range (tension t) = wide_range t k e p.z c.requires.0.on₂ in
    simp to_z-of_z (search rules)

pub map-requires-2 : goal.map-requires-2
map-requires-2 c =
    let u = c.requires.0.plain c.if-flag-eq-WIDE.false in
    let p = c.args.point in
    let t = c.args.t in
    let k = c.args.flag in
    let f₀ : SFits w64 p.x = search rules in
    let f₁ : SFits w64 p.y = search rules in
    let f₂ : SFits w64 p.z = search rules in
    let x : nat_abs p.x ≤ 2 ^ 33 = plain_small t p.x (plain_range t k u p.x c.requires.0.on₀) in
    let y : nat_abs p.y ≤ 2 ^ 33 = plain_small t p.y (plain_range t k u p.y c.requires.0.on₁) in
    let z : nat_abs p.z ≤ 2 ^ 33 = plain_small t p.z (plain_range t k u p.z c.requires.0.on₂) in
    simp to_z-of_z (search rules)

pub returns-then-flag-eq-WIDE : goal.returns-then-flag-eq-WIDE
returns-then-flag-eq-WIDE c =
    let e = c.if-flag-eq-WIDE.true in
    let p = c.args.point in
    let r = c.map.result in
    let t = c.args.t in
    let k = c.args.flag in
    let x : r.x ≡ round p.x (edge_scale (tension t)) = search rules in
    let y : r.y ≡ round p.y (edge_scale (tension t)) = search rules in
    let z : r.z ≡ round p.z (edge_scale (tension t)) = search rules in
    record { x = x ∙ wide_is t k e p.x; y = y ∙ wide_is t k e p.y; z = z ∙ wide_is t k e p.z }

pub returns : goal.returns
returns c =
    let u = c.requires.0.plain c.if-flag-eq-WIDE.false in
    let p = c.args.point in
    let r = c.map-2.result in
    let t = c.args.t in
    let k = c.args.flag in
    let x : r.x ≡ round p.x 64 = search rules in
    let y : r.y ≡ round p.y 64 = search rules in
    let z : r.z ≡ round p.z 64 = search rules in
    record { x = x ∙ round-plain t p.x ∙ plain_is t k u p.x; y = y ∙ round-plain t p.y ∙ plain_is t k u p.y; z = z ∙ round-plain t p.z ∙ plain_is t k u p.z }
