-- `letters::name_start` meets its contract: both fills, or nothing. Assumes nothing.
use Rattle.std.proofs.Common.{rules}
use Rattle.tables.proofs.Written.{written_fill}
use Rattle.letters.proofs.Letters.{if_asked, start-named}
use Rattle.letters.proofs.name_start.Goals as goal

pub returns-then-with_letters : goal.returns-then-with_letters
returns-then-with_letters c =
    let h = c.requires c.if-with_letters.true in
    if_asked c.args.with_letters _ _ _ _ _ c.if-with_letters.true
    (start-named c.args.control c.args.start c.args.letters.now _ _ h.0
    (written_fill 0 c.args.control c.args.control 86 c.args.letters.now _ (search rules) (search rules) (c.fill.ensures.after (search rules)))
    (written_fill c.args.control c.args.start _ 83 _ _ (search rules) (search rules) (c.fill-then-with_letters.ensures.after (search rules))))
