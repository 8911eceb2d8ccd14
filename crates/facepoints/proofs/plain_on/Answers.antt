-- `plain_on` meets its contract: no step leaves its range. Assumes nothing.
use borrow.Author.Rules.{rules}
use native.Mathlib.Omega.{arith}
use mathlib.Core.Path.{◌≡◌, refl, ap, ◌∙◌}
use lib.IntN.{ℤ, pos, nat_abs, ◌-ℤ◌}
use mir.Syntax.{w32, w64}
use mir.Val.{SFits}
use mir.Facts.{to_z-of_z}
use Rattle.curve.specs.Weights.{tension, interior}
use Rattle.rounding.specs.Rounding.{round}
use Rattle.edgeentries.specs.Packed.{packed_at}
use Rattle.edgeentries.proofs.Packed.{biased_packed}
use Rattle.facepoints.proofs.Plain.{Steps, steps, four_read, plain_read}
use Rattle.facepoints.proofs.plain_on.Goals as goal

pub four_point-z-requires : goal.four_point-z-requires
four_point-z-requires c =
    let p : ℤ = packed_at c.args.work.now c.args.p in
    let q : ℤ = packed_at c.args.work.now c.args.q in
    let r : ℤ = packed_at c.args.work.now c.args.r in
    let u : ℤ = packed_at c.args.work.now c.args.s in
    let at : Steps c.args.t p q r u = steps _ c.requires.4 _ _ _ _ c.requires.0.small c.requires.1.small c.requires.2.small c.requires.3.small in
    let f₁ : SFits w64 c.load_biased.result = search rules in
    let f₂ : SFits w64 c.load_biased-2.result = search rules in
    let f₃ : SFits w64 c.load_biased-3.result = search rules in
    let f₄ : SFits w64 c.load_biased-4.result = search rules in
    let k = at.reads in
    let k₁ = k.1 in
    let k₂ = k.2 in
    let k₃ = k.3 in
    let k₄ = k.4 in
    let w = c.args.work.now in
    let e₁ = ap nat_abs (c.load_biased.ensures.0 ∙ biased_packed w c.args.p) in
    let e₂ = ap nat_abs (c.load_biased-2.ensures.0 ∙ biased_packed w c.args.q) in
    let e₃ = ap nat_abs (c.load_biased-3.ensures.0 ∙ biased_packed w c.args.r) in
    let e₄ = ap nat_abs (c.load_biased-4.ensures.0 ∙ biased_packed w c.args.s) in
    simp to_z-of_z (k.0, omega arith, omega arith, omega arith, omega arith)

pub overflow_sub-z : goal.overflow_sub-z
overflow_sub-z c =
    let p : ℤ = packed_at c.args.work.now c.args.p in
    let q : ℤ = packed_at c.args.work.now c.args.q in
    let r : ℤ = packed_at c.args.work.now c.args.r in
    let u : ℤ = packed_at c.args.work.now c.args.s in
    let at : Steps c.args.t p q r u = steps _ c.requires.4 _ _ _ _ c.requires.0.small c.requires.1.small c.requires.2.small c.requires.3.small in
    let value : c.four_point-z.result -ℤ pos 4611686155866341376 ≡ (interior (tension c.args.t) p q r u) = let f₁ : SFits w64 c.load_biased.result = search rules in
    let f₂ : SFits w64 c.load_biased-2.result = search rules in
    let f₃ : SFits w64 c.load_biased-3.result = search rules in
    let f₄ : SFits w64 c.load_biased-4.result = search rules in
    let e = four_read c.args.t c.args.work.now c.args.p c.args.q c.args.r c.args.s c.four_point-z.result c.load_biased.result c.load_biased-2.result c.load_biased-3.result c.load_biased-4.result
    (simp to_z-of_z at c.four_point-z.ensures) c.load_biased.ensures.0 c.load_biased-2.ensures.0 c.load_biased-3.ensures.0 c.load_biased-4.ensures.0 in
    ap (λ (z : ℤ). z -ℤ pos 4611686155866341376) e ∙ at.is in
    let value_fits : SFits w64 (c.four_point-z.result -ℤ pos 4611686155866341376) = rw value at.value in
    let f : SFits w64 c.four_point-z.result = search rules in let g = value_fits in simp to_z-of_z g

pub round_shift-requires : goal.round_shift-requires
round_shift-requires c =
    let p : ℤ = packed_at c.args.work.now c.args.p in
    let q : ℤ = packed_at c.args.work.now c.args.q in
    let r : ℤ = packed_at c.args.work.now c.args.r in
    let u : ℤ = packed_at c.args.work.now c.args.s in
    let at : Steps c.args.t p q r u = steps _ c.requires.4 _ _ _ _ c.requires.0.small c.requires.1.small c.requires.2.small c.requires.3.small in
    let value : c.four_point-z.result -ℤ pos 4611686155866341376 ≡ (interior (tension c.args.t) p q r u) = let f₁ : SFits w64 c.load_biased.result = search rules in
    let f₂ : SFits w64 c.load_biased-2.result = search rules in
    let f₃ : SFits w64 c.load_biased-3.result = search rules in
    let f₄ : SFits w64 c.load_biased-4.result = search rules in
    let e = four_read c.args.t c.args.work.now c.args.p c.args.q c.args.r c.args.s c.four_point-z.result c.load_biased.result c.load_biased-2.result c.load_biased-3.result c.load_biased-4.result
    (simp to_z-of_z at c.four_point-z.ensures) c.load_biased.ensures.0 c.load_biased-2.ensures.0 c.load_biased-3.ensures.0 c.load_biased-4.ensures.0 in
    ap (λ (z : ℤ). z -ℤ pos 4611686155866341376) e ∙ at.is in
    let value_fits : SFits w64 (c.four_point-z.result -ℤ pos 4611686155866341376) = rw value at.value in
    let f : SFits w64 c.four_point-z.result = search rules in
    let g = value_fits in
    let k = at.range in
    let e = ap nat_abs value in
    simp to_z-of_z (omega arith, refl, omega arith, omega arith)

pub overflow_cast-result : goal.overflow_cast-result
overflow_cast-result c =
    let p : ℤ = packed_at c.args.work.now c.args.p in
    let q : ℤ = packed_at c.args.work.now c.args.q in
    let r : ℤ = packed_at c.args.work.now c.args.r in
    let u : ℤ = packed_at c.args.work.now c.args.s in
    let at : Steps c.args.t p q r u = steps _ c.requires.4 _ _ _ _ c.requires.0.small c.requires.1.small c.requires.2.small c.requires.3.small in
    let value : c.four_point-z.result -ℤ pos 4611686155866341376 ≡ (interior (tension c.args.t) p q r u) = let f₁ : SFits w64 c.load_biased.result = search rules in
    let f₂ : SFits w64 c.load_biased-2.result = search rules in
    let f₃ : SFits w64 c.load_biased-3.result = search rules in
    let f₄ : SFits w64 c.load_biased-4.result = search rules in
    let e = four_read c.args.t c.args.work.now c.args.p c.args.q c.args.r c.args.s c.four_point-z.result c.load_biased.result c.load_biased-2.result c.load_biased-3.result c.load_biased-4.result
    (simp to_z-of_z at c.four_point-z.ensures) c.load_biased.ensures.0 c.load_biased-2.ensures.0 c.load_biased-3.ensures.0 c.load_biased-4.ensures.0 in
    ap (λ (z : ℤ). z -ℤ pos 4611686155866341376) e ∙ at.is in
    let value_fits : SFits w64 (c.four_point-z.result -ℤ pos 4611686155866341376) = rw value at.value in
    let rounded : c.round_shift.result ≡ round (c.four_point-z.result -ℤ pos 4611686155866341376) 4096 = let f : SFits w64 c.four_point-z.result = search rules in let g = value_fits in simp to_z-of_z at c.round_shift.ensures in
    let rounded_fits : SFits w32 c.round_shift.result = rw (rounded, value) at.rounded in
    let f : SFits w64 c.round_shift.result = search rules in let g = rounded_fits in simp to_z-of_z g

pub returns : goal.returns
returns c =
    let p : ℤ = packed_at c.args.work.now c.args.p in
    let q : ℤ = packed_at c.args.work.now c.args.q in
    let r : ℤ = packed_at c.args.work.now c.args.r in
    let u : ℤ = packed_at c.args.work.now c.args.s in
    let at : Steps c.args.t p q r u = steps _ c.requires.4 _ _ _ _ c.requires.0.small c.requires.1.small c.requires.2.small c.requires.3.small in
    let value : c.four_point-z.result -ℤ pos 4611686155866341376 ≡ (interior (tension c.args.t) p q r u) = let f₁ : SFits w64 c.load_biased.result = search rules in
    let f₂ : SFits w64 c.load_biased-2.result = search rules in
    let f₃ : SFits w64 c.load_biased-3.result = search rules in
    let f₄ : SFits w64 c.load_biased-4.result = search rules in
    let e = four_read c.args.t c.args.work.now c.args.p c.args.q c.args.r c.args.s c.four_point-z.result c.load_biased.result c.load_biased-2.result c.load_biased-3.result c.load_biased-4.result
    (simp to_z-of_z at c.four_point-z.ensures) c.load_biased.ensures.0 c.load_biased-2.ensures.0 c.load_biased-3.ensures.0 c.load_biased-4.ensures.0 in
    ap (λ (z : ℤ). z -ℤ pos 4611686155866341376) e ∙ at.is in
    let value_fits : SFits w64 (c.four_point-z.result -ℤ pos 4611686155866341376) = rw value at.value in
    let rounded : c.round_shift.result ≡ round (c.four_point-z.result -ℤ pos 4611686155866341376) 4096 = let f : SFits w64 c.four_point-z.result = search rules in let g = value_fits in simp to_z-of_z at c.round_shift.ensures in
    let rounded_fits : SFits w32 c.round_shift.result = rw (rounded, value) at.rounded in
    let f : SFits w64 c.round_shift.result = search rules in
    let g = rounded_fits in
    simp to_z-of_z (plain_read c.args.t c.args.work.now c.args.p c.args.q c.args.r c.args.s c.round_shift.result (c.four_point-z.result -ℤ pos 4611686155866341376) rounded value)
