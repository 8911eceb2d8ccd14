-- `growth::final_vertices` meets its contract: the edges by the mates, then the steps. Assumes nothing.
use mathlib.Core.Path.{◌≡◌, sym, ap, ap₂, ◌∙◌, subst}
use Prim.Native.Nat.{ℕ, ◌+◌, ◌/◌}
use native.Mathlib.Omega.{arith}
use lib.ListN.{length}
use Rattle.polygons.specs.Polygons.{shape_of}
use Rattle.growth.specs.Growth.{Counts, counts, counts_of, grown_by, splits, Bounded}
use Rattle.growth.proofs.Bounds.{bounded, counts-plain, counts-split}
use Rattle.growth.proofs.Laws.{splits_none, splits_some}
use Rattle.growth.proofs.final_vertices.Goals as goal
use Rattle.growth.proofs.final_vertices.Goals.{Start, After-edge_count-edges}

-- the counts of the net
abbrev whole : Start → Counts
whole c = counts_of (shape_of c.args.sides.now) c.args.v c.args.faces.now

few : (c : Start) (d : Counts) → d ≡ whole c → Bounded d
few c d h = subst Bounded (sym h) (bounded c.args.rounds c.args.faces.now c.args.sides.now c.args.v c.args.work.now c.requires)

plain : (c : After-edge_count-edges) → length c.args.sides.now ≡ 0
    → counts c.args.v c.edge_count-edges.result (length c.args.faces.now / 4) (length c.args.faces.now) ≡ counts_of (shape_of c.args.sides.now) c.args.v c.args.faces.now
plain c z = counts-plain c.args.rounds c.args.faces.now c.args.sides.now c.args.v c.args.work.now c.requires c.edge_count-edges.result c.edge_count-edges.ensures z

split : (c : After-edge_count-edges) → (length c.args.sides.now ≡ 0 → ⊥)
    → counts c.args.v c.edge_count-edges.result (length c.args.sides.now) (length c.args.faces.now) ≡ counts_of (shape_of c.args.sides.now) c.args.v c.args.faces.now
split c z = counts-split c.args.rounds c.args.faces.now c.args.sides.now c.args.v c.args.work.now c.requires c.edge_count-edges.result c.edge_count-edges.ensures z

pub returns-then-sides-eq0 : goal.returns-then-sides-eq0
unfolding grown_by counts_of
returns-then-sides-eq0 c =
    let j : c.args.rounds + splits c.args.sides.now ≡ 0 = let r = c.if-rounds-eq0.true in let n = splits_none c.args.sides.now c.if-sides-eq0.true in omega arith in
    ap (λ (k : ℕ). (grown_by k (counts_of (shape_of c.args.sides.now) c.args.v c.args.faces.now)).vertices) (sym j)

pub vertices_after-requires-clause-bounded : goal.vertices_after-requires-clause-bounded
vertices_after-requires-clause-bounded c =
    let p = goal.at.vertices_after-requires-clause-bounded c in few p.Start _ (plain p.After-edge_count-edges c.if-sides-eq0-2.true)

pub returns-then-sides-eq0-2 : goal.returns-then-sides-eq0-2
returns-then-sides-eq0-2 c =
    let z = c.if-sides-eq0-2.true in
    let k : c.args.rounds + splits c.args.sides.now ≡ c.args.rounds = let n = splits_none c.args.sides.now z in omega arith in
    c.vertices_after.ensures ∙ ap₂ (λ (j : ℕ) (d : Counts). (grown_by j d).vertices) (sym k) (plain (goal.at.returns-then-sides-eq0-2 c).After-edge_count-edges z)

pub vertices_after-requires-2-clause-bounded : goal.vertices_after-requires-2-clause-bounded
vertices_after-requires-2-clause-bounded c =
    let p = goal.at.vertices_after-requires-2-clause-bounded c in few p.Start _ (split p.After-edge_count-edges c.if-sides-eq0-2.false)

pub returns : goal.returns
returns c =
    let z = c.if-sides-eq0-2.false in
    let k = ap (λ (j : ℕ). c.args.rounds + j) (splits_some c.args.sides.now (omega arith)) in
    c.vertices_after-2.ensures ∙ ap₂ (λ (j : ℕ) (d : Counts). (grown_by j d).vertices) (sym k) (split (goal.at.returns c).After-edge_count-edges z)
