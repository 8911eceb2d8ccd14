-- `scan::first_bad_mark` meets its contract. Assumes nothing.
use mathlib.Core.Path.{refl}
use lib.Dec.{ltb}
use Rattle.std.proofs.Common.{rules}
use borrow.Author.Tests.{tests}
use Rattle.std.proofs.lemmas.Iterator.{YieldsList-from_slice}
use Rattle.std.proofs.lemmas.Iterator.Search.{position_from_yields_List}
use Rattle.refusals.specs.Refusals.{bad_mark}
use Rattle.search.proofs.Found.{found_position}
use Rattle.scan.proofs.first_bad_mark.Goals as goal

pub returns : goal.returns
unfolding bad_mark
returns c = found_position (bad_mark c.args.marks.now) _ (ltb 1) c.args.marks.now 0 _ refl (position_from_yields_List (ltb 1) _ _ c.position.result c.position.ensures.ran (YieldsList-from_slice c.args.marks.now (cc)) (λ x b q k. search (rules, tests))) (λ i h. refl)
