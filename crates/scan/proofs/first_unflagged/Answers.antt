-- `scan::first_unflagged` meets its contract: a vertex without a flag is isolated. Assumes nothing.
use mathlib.Core.Path.{sym, ◌∙◌, ap}
use Prim.Native.Nat.{ℕ}
use lib.ListN.{take}
use Rattle.std.proofs.lemmas.List.{length-take-le, get_or-take}
use lib.Dec.{eqb}
use Rattle.std.proofs.Common.{rules}
use borrow.Author.Tests.{tests}
use Rattle.std.proofs.lemmas.Iterator.{YieldsList-from_slice}
use Rattle.std.proofs.lemmas.Iterator.Search.{position_from_yields_List}
use Rattle.refusals.specs.Refusals.{isolated}
use Rattle.search.proofs.Found.{found_position}
use Rattle.scan.proofs.Laws.{unflagged}
use Rattle.scan.proofs.first_unflagged.Goals as goal

pub returns : goal.returns
returns c =
    let m = c.args.m in
    let w = c.args.work.now in
    let l = c.args.faces.now in
    found_position (isolated l) m (λ (f : ℕ). eqb f 0) (take m w) 0 _ (length-take-le m w c.requires.0) (position_from_yields_List (λ (f : ℕ). eqb f 0) _ _ c.position.result c.position.ensures.ran (YieldsList-from_slice (take m w) (cc)) (λ x b q k. search (rules, tests))) (λ p h. unflagged m l w p h c.requires.1 ∙ ap (λ (f : ℕ). eqb f 0) (sym (get_or-take m w p 0 h)))
