-- `first_apart` meets its contract: the first walk ends no later than the second, whose last vertex is marked. Assumes nothing.
use mathlib.Core.Path.{◌≡◌, ◌∙◌}
use Prim.Native.Nat.{◌+◌}
use native.Mathlib.Omega.{arith}
use borrow.Author.Tests.{eq-eqb, ne_eqb}
use Rattle.topology.specs.HalfEdge.{from}
use Rattle.nets.specs.Net.{marked}
use Rattle.nets.specs.Drawn.{drawn}
use Rattle.comparison.specs.Walks.{Walks, walks}
use Rattle.comparison.proofs.Comparing.{start_pair, start-apart, comparing_start, comparing_lt, comparing_ends, next_lt, next_pair, next_apart, next_end, comparing_next}
use Rattle.comparison.proofs.first_apart.Goals as goal
use Rattle.comparison.proofs.first_apart.Goals.{Start}

-- both walks
abbrev both : (c : Start) → Walks
both c = let a = c.args in walks (drawn a.a) a.half (drawn a.b) a.start a.work.now a.at

pub same_vertex-requires : goal.same_vertex-requires
unfolding from
same_vertex-requires c = start_pair (both (goal.at.same_vertex-requires c).Start) c.args.e c.requires

pub returns-then-not-same_vertex : goal.returns-then-not-same_vertex
unfolding from
returns-then-not-same_vertex c =
    let d = c.same_vertex in start-apart (both (goal.at.returns-then-not-same_vertex c).Start) c.args.e c.requires d.result d.ensures c.if-not-same_vertex.true

pub loop-k-init : goal.loop-k-init
unfolding from
loop-k-init c =
    let d = c.same_vertex in comparing_start (both (goal.at.loop-k-init c).Start) c.args.e c.requires d.result d.ensures c.if-not-same_vertex.false

-- ---- one step on
pub along-g-requires-clause-h_in_bounds : goal.along-g-requires-clause-h_in_bounds
along-g-requires-clause-h_in_bounds c =
    let q = c.loop-k in comparing_lt (both (goal.at.along-g-requires-clause-h_in_bounds c).Start) c.args.e c.requires q.g q.k q.invariant

pub offset_bounds-faces-g : goal.offset_bounds-faces-g
offset_bounds-faces-g c =
    let q = c.loop-k in
    omega (arith, c.requires.first.table.shaped.space.few, next_lt (both (goal.at.offset_bounds-faces-g c).Start) c.args.e c.requires q.g q.k q.invariant c.loop-k-test.true c.along-g.result c.along-g.ensures)

pub bounds-faces-g : goal.bounds-faces-g
bounds-faces-g c =
    let q = c.loop-k in next_lt (both (goal.at.bounds-faces-g c).Start) c.args.e c.requires q.g q.k q.invariant c.loop-k-test.true c.along-g.result c.along-g.ensures

pub same_vertex-requires-in-loop-k : goal.same_vertex-requires-in-loop-k
unfolding from
same_vertex-requires-in-loop-k c =
    let q = c.loop-k in next_pair (both (goal.at.same_vertex-requires-in-loop-k c).Start) c.args.e c.requires q.g q.k q.invariant c.loop-k-test.true c.along-g.result c.along-g.ensures

pub returns-then-not-same_vertex-2 : goal.returns-then-not-same_vertex-2
unfolding from
returns-then-not-same_vertex-2 c =
    let q = c.loop-k in
    let x = c.same_vertex-in-loop-k in
    next_apart (both (goal.at.returns-then-not-same_vertex-2 c).Start) c.args.e c.requires q.g q.k q.invariant c.loop-k-test.true c.along-g.result c.along-g.ensures x.result x.ensures c.if-not-same_vertex-2.true

pub bounds-a-u : goal.bounds-a-u
unfolding from
bounds-a-u c =
    let q = c.loop-k in (next_pair (both (goal.at.bounds-a-u c).Start) c.args.e c.requires q.g q.k q.invariant c.loop-k-test.true c.along-g.result c.along-g.ensures).mark

pub returns-then-a-u-eq1 : goal.returns-then-a-u-eq1
unfolding from marked
returns-then-a-u-eq1 c =
    let q = c.loop-k in
    let x = c.same_vertex-in-loop-k in
    let two : q.k + 2 ≡ q.k + 1 + 1 = omega arith in
    two ∙ next_end (both (goal.at.returns-then-a-u-eq1 c).Start) c.args.e c.requires q.g q.k q.invariant c.loop-k-test.true c.along-g.result c.along-g.ensures x.result x.ensures c.if-not-same_vertex-2.false
    (eq-eqb _ 1 c.if-a-u-eq1.true)

pub loop-k-preserved : goal.loop-k-preserved
unfolding from marked
loop-k-preserved c =
    let q = c.loop-k in
    let x = c.same_vertex-in-loop-k in
    comparing_next (both (goal.at.loop-k-preserved c).Start) c.args.e c.requires q.g q.k q.invariant c.loop-k-test.true c.along-g.result c.along-g.ensures x.result x.ensures c.if-not-same_vertex-2.false
    (ne_eqb _ 1 c.if-a-u-eq1.false)

pub returns : goal.returns
returns c =
    let q = c.loop-k in
    let end : ⊥ = comparing_ends (both (goal.at.returns c).Start) c.args.e c.requires q.g q.k q.invariant (omega arith) in absurd end
