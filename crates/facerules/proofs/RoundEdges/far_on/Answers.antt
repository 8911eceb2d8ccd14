-- `far_on` meets its contract. Assumes nothing.
use borrow.Author.Rules.{rules}
use native.Mathlib.Omega.{arith}
use mathlib.Core.Path.{sym, ap, ◌∙◌}
use mir.Syntax.{w64}
use mir.Val.{SFits}
use mir.Facts.{to_z-of_z}
use Rattle.curve.specs.Weights.{tension}
use Rattle.topology.specs.Quads.{across}
use Rattle.edgeentries.specs.Entry.{exact_of}
use Rattle.facerules.specs.Faces.{beyond_of}
use Rattle.facerules.proofs.Reading.{across_lt}
use Rattle.facerules.proofs.Directions.{far_mated, far_none}
use Rattle.facerules.proofs.RoundEdges.far_on.Goals as goal

pub exact_on-requires : goal.exact_on-requires
exact_on-requires c = (omega (arith, c.across_side.ensures, across_lt _ _ c.args.self.table.entries.fours c.if-m-self.true), c.requires.1)

pub returns-then-m-self : goal.returns-then-m-self
unfolding beyond_of
returns-then-m-self c =
    let s = c.args.self in
    let e = c.mate-m.ensures in
    let t = c.if-m-self.true in
    let f : SFits w64 c.exact_on.result = search rules in
    simp to_z-of_z (c.exact_on.ensures ∙ ap (exact_of (tension s.tension) s.half_edges s.work.now c.args.a) (c.across_side.ensures ∙ ap across e) ∙ sym (far_mated _ _ _ _ _ _ _ (omega arith)))

pub returns : goal.returns
returns c =
    let e = c.mate-m.ensures in
    let t = c.if-m-self.false in
    let f : SFits w64 c.args.x = c.ranges.x in
    let g : SFits w64 c.args.y = c.ranges.y in
    let h : SFits w64 c.mirrored.result = search rules in
    let m = simp to_z-of_z at c.mirrored.ensures in
    simp to_z-of_z (m ∙ sym (far_none c.args.self.tension _ _ _ _ c.args.x c.args.y (omega arith)))
