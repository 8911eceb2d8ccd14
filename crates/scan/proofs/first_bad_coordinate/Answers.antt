-- `scan::first_bad_coordinate` meets its contract. Assumes nothing.
use mathlib.Core.Path.{refl}
use lib.Dec.{ltb}
use lib.IntN.{ℤ, pos}
use Rattle.std.specs.Prelude.{nat_abs}
use Rattle.std.proofs.Common.{rules}
use borrow.Author.Tests.{tests}
use Rattle.std.proofs.lemmas.Iterator.{YieldsList-from_slice}
use Rattle.std.proofs.lemmas.Iterator.Search.{position_from_yields_List}
use Rattle.bounds.specs.Bounds.{max_coordinate}
use Rattle.verdict.specs.Verdict.{bad_coordinate}
use Rattle.search.proofs.Found.{found_position}
use Rattle.scan.proofs.first_bad_coordinate.Goals as goal

pub returns : goal.returns
unfolding bad_coordinate
returns c = found_position (bad_coordinate c.args.vertices.now) _ (λ (x : ℤ). ltb max_coordinate (nat_abs x)) c.args.vertices.now (pos 0) _ refl (position_from_yields_List (λ (x : ℤ). ltb max_coordinate (nat_abs x)) _ _ c.position.result c.position.ensures.ran (YieldsList-from_slice c.args.vertices.now (cc)) (λ x b q k. search (rules, tests))) (λ i h. refl)
