-- `number_edges` meets its contract: the edges of the half-edges below h are numbered. Assumes nothing.
use mathlib.Core.Path.{refl, ap, ◌∙◌}
use mathlib.Core.List.{List}
use Prim.Native.Nat.{ℕ, ◌+◌}
use native.Mathlib.Omega.{arith}
use lib.ListN.{set}
use Rattle.search.specs.Search.{count}
use Rattle.edgenumbers.specs.Edges.{met_by, edge_by}
use Rattle.edgenumbers.proofs.Edges.{numbering_none, numbering_next, numbering_all, numbering_mates, numbering_in, numbering_below, counted_all}
use Rattle.edgenumbers.proofs.number_edges.Goals as goal

pub loop-h-init : goal.loop-h-init
unfolding count
loop-h-init c = (numbering_none c.args.n c.args.work.now c.requires, refl)

pub number_side-edges-requires-clause-paired_in : goal.number_side-edges-requires-clause-paired_in
number_side-edges-requires-clause-paired_in c =
    let s = c.loop-h in numbering_in c.args.n c.args.work.now c.requires s.h s.work s.auto.h-end s.invariant.0 s.auto.work

pub number_side-edges-requires-clause-numbered_below : goal.number_side-edges-requires-clause-numbered_below
number_side-edges-requires-clause-numbered_below c =
    let s = c.loop-h in numbering_below c.args.n c.args.work.now c.requires s.h s.work s.auto.h-end s.invariant.0

pub number_side-edges-requires-clause-h_lt_n : goal.number_side-edges-requires-clause-h_lt_n
number_side-edges-requires-clause-h_lt_n c =
    let s = c.loop-h in
    let e = numbering_mates c.args.n c.args.work.now c.requires s.h s.work s.auto.h-end s.invariant.0 in (c.loop-h-test.true, rw e s.invariant.1)

pub loop-h-preserved : goal.loop-h-preserved
loop-h-preserved c =
    let n = c.args.n in
    let w = c.args.work.now in
    let s = c.loop-h in
    let e = numbering_mates n w c.requires s.h s.work s.auto.h-end s.invariant.0 in
    let r = c.number_side-edges.ensures in (
      r.work_after ∙ ap (λ (x : List ℕ). set s.work (n + s.h) (edge_by x s.h)) e ∙ numbering_next n w c.requires s.h s.work c.loop-h-test.true s.invariant.0,
      r.value ∙ ap (λ (x : List ℕ). count (met_by x) (s.h + 1)) e,
    )

pub returns-clause-value : goal.returns-clause-value
returns-clause-value c =
    c.loop-h.invariant.1 ∙ counted_all c.args.n c.args.work.now c.requires c.loop-h.h (omega arith)

pub returns-clause-work_after : goal.returns-clause-work_after
returns-clause-work_after c = numbering_all c.args.n c.args.work.now c.requires c.loop-h.h c.loop-h.work (omega arith) c.loop-h.invariant.0
