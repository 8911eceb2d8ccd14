-- `first_empty` meets its contract: a vertex whose chain is empty is isolated. Assumes nothing.
use mathlib.Core.Path.{◌≡◌, ap, sym, ◌∙◌}
use Prim.Native.Nat.{ℕ, ◌+◌, ◌-◌, ◌≤◌}
use native.Mathlib.Omega.{arith}
use lib.ListN.{length, take, drop}
use lib.Dec.{eqb}
use Rattle.std.proofs.Common.{rules, tests}
use Rattle.std.proofs.lemmas.List.{length-take-le, length-drop, get_or-take, get_or-drop}
use Rattle.std.proofs.lemmas.Iterator.{YieldsList-from_slice}
use Rattle.std.proofs.lemmas.Iterator.Search.{position_from_yields_List}
use Rattle.search.proofs.Found.{found_position}
use Rattle.refusals.specs.Refusals.{isolated}
use Rattle.adjacency.proofs.Queries.{empty_chain}
use Rattle.adjacency.proofs.first_empty.Goals as goal

pub returns : goal.returns
returns c =
    let l = c.args.faces.now in
    let n : ℕ = length l in
    let v : ℕ = c.args.nv in
    let w = c.args.work.now in
    let a : n + v - n ≡ v = omega arith in
    let r = c.requires.tables.room in
    let b : v ≤ length (drop n w) = omega (arith, length-drop n w) in
    found_position (isolated l) v (λ (g : ℕ). eqb g n) (take v (drop n w)) 0 _ (length-take-le v (drop n w) b)
    (position_from_yields_List (λ (g : ℕ). eqb g n) _ _ c.position.result c.position.ensures.ran
    (YieldsList-from_slice (take v (drop n w)) (c.iter.ensures.rest ∙ ap (λ (k : ℕ). take k (drop n w)) a)) (λ x b q k. search (rules, tests)))
    (λ p h.
    empty_chain l w p c.requires.chained (omega arith)
    ∙ ap (λ (g : ℕ). eqb g n) (sym (get_or-take v (drop n w) p 0 h ∙ get_or-drop n w p 0)))
