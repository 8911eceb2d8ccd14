-- `next_in` meets its contract. Assumes nothing.
use mathlib.Core.Path.{◌≡◌, sym, ap, ◌∙◌}
use Rattle.std.proofs.Common.{rules}
use Rattle.topology.specs.Shape.{Shape, quads}
use Rattle.polygons.proofs.Counts.{shape_none}
use Rattle.sidetable.proofs.Table.{held, either_way}
use Rattle.sidetable.proofs.next_in.Goals as goal

pub returns : goal.returns
returns c =
    either_way c.args.sides.now _ _
    (λ e. let q : c.step.result ≡ quads.next c.args.h = (let r = c.step.ensures.reckoned e in search rules) in q ∙ sym (ap (λ (S : Shape). S.next c.args.h) (shape_none c.args.sides.now e)))
    (λ p. c.step.ensures.held p ∙ (held _ _ _ _ c.requires.shaped c.requires.h_lt_n p).next)
