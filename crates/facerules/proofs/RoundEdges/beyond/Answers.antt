-- `beyond` meets its contract. Assumes nothing.
use native.Mathlib.Omega.{arith}
use mathlib.Core.Path.{ap, ◌∙◌}
use Rattle.topology.specs.Quads.{across}
use Rattle.edgeentries.specs.Entry.{entry_of}
use Rattle.facerules.specs.Faces.{beyond_of}
use Rattle.facerules.proofs.Reading.{across_lt}
use Rattle.facerules.proofs.RoundEdges.beyond.Goals as goal

pub entry_at-requires : goal.entry_at-requires
entry_at-requires c = omega (arith, c.across_side.ensures, c.mate.ensures, across_lt c.args.self.half_edges c.mate.result c.args.self.table.entries.fours (omega (arith, c.mate.ensures, c.requires.1)))

pub returns : goal.returns
unfolding beyond_of
returns c =
    (c.entry_at.ensures.0 ∙ ap (entry_of c.args.self.half_edges c.args.self.work.now) (c.across_side.ensures ∙ ap across c.mate.ensures), c.entry_at.ensures.1)
