-- `extend_marks` meets its contract: the marks from v on are 0. Assumes nothing.
use Rattle.std.proofs.Common.{rules}
use Rattle.tables.proofs.Written.{written_fill}
use Rattle.roundfaces.proofs.Marks.{marks_extended}
use Rattle.roundfaces.proofs.extend_marks.Goals as goal

pub returns : goal.returns
returns c = marks_extended c.args.v c.args.count c.args.marks.now _ c.requires.0 c.requires.1 (search rules) (written_fill c.args.v _ _ 0 _ _ (search rules) c.requires.1 (c.fill.ensures.after (search rules)))
