-- `exact_on` meets its contract: the product is in range. Assumes nothing.
use native.Mathlib.Omega.{arith}
use mir.Syntax.{w64}
use mir.Val.{SFits}
use mir.Facts.{to_z-of_z}
use mathlib.Core.Path.{◌≡◌}
use lib.IntN.{◌*ℤ◌}
use borrow.Author.Rules.{rules}
use Rattle.edgeentries.specs.Entry.{place_of, exact_of}
use Rattle.curve.specs.Weights.{tension}
use Rattle.facerules.proofs.Reading.{readable, exact_fits, exact_read}
use Rattle.facerules.proofs.RoundEdges.exact_on.Goals as goal

pub exact_at-z-requires : goal.exact_at-z-requires
unfolding place_of
exact_at-z-requires c =
    let k = readable _ _ _ _ _ _ c.args.self.table c.requires.1 c.requires.0 c.entry_at-e.ensures.0 in let n = k.few in let r = k.room in let m = k.number in (omega arith, k.on, omega arith, k.high)

pub overflow_mul-result : goal.overflow_mul-result
overflow_mul-result c =
    let s = c.args.self in
    let product : c.unit.result *ℤ c.exact_at-z.result ≡ exact_of (tension s.tension) s.half_edges s.work.now c.args.a c.args.h = exact_read _ _ _ _ _ _ c.unit.result c.exact_at-z.result c.entry_at-e.ensures.0 c.unit.ensures c.exact_at-z.ensures in
    let product_fits : SFits w64 (c.unit.result *ℤ c.exact_at-z.result) = rw product (exact_fits _ _ _ _ _ s.table c.requires.1 c.requires.0) in
    let f : SFits w64 c.unit.result = search rules in let g : SFits w64 c.exact_at-z.result = search rules in let h = product_fits in simp to_z-of_z h

pub returns : goal.returns
returns c =
    let s = c.args.self in
    let product : c.unit.result *ℤ c.exact_at-z.result ≡ exact_of (tension s.tension) s.half_edges s.work.now c.args.a c.args.h = exact_read _ _ _ _ _ _ c.unit.result c.exact_at-z.result c.entry_at-e.ensures.0 c.unit.ensures c.exact_at-z.ensures in
    let product_fits : SFits w64 (c.unit.result *ℤ c.exact_at-z.result) = rw product (exact_fits _ _ _ _ _ s.table c.requires.1 c.requires.0) in
    let f : SFits w64 c.unit.result = search rules in let g : SFits w64 c.exact_at-z.result = search rules in let h = product_fits in simp to_z-of_z product
