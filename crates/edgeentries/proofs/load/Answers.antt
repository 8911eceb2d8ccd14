-- `load` meets its contract: the difference is in range. Assumes nothing.
use borrow.Author.Rules.{rules}
use mir.Syntax.{w64}
use mir.Val.{SFits}
use mir.Facts.{to_z-of_z}
use Rattle.edgeentries.proofs.Packed.{unbiased_fits, unbiased_packed}
use Rattle.edgeentries.proofs.load.Goals as goal

pub overflow_sub-result : goal.overflow_sub-result
overflow_sub-result c =
    let f : SFits w64 c.load_biased.result = search rules in
    simp to_z-of_z (unbiased_fits _ _ c.load_biased.result c.load_biased.ensures.0 c.load_biased.ensures.1)

pub returns : goal.returns
returns c =
    let f : SFits w64 c.load_biased.result = search rules in
    let g = unbiased_fits _ _ c.load_biased.result c.load_biased.ensures.0 c.load_biased.ensures.1 in
    simp to_z-of_z (unbiased_packed _ _ c.load_biased.result c.load_biased.ensures.0)
