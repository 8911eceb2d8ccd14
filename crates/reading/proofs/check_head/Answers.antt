-- `reading::check_head` meets its contract. Assumes nothing.
use Rattle.reading.proofs.FirstLines.{names_bad, counts_bad, columns_bad, head_good}
use Rattle.reading.proofs.check_head.Goals as goal

pub returns-in_default : goal.returns-in_default
returns-in_default c = names_bad _ c.in_default.ensures

pub returns-in_default-read_counts : goal.returns-in_default-read_counts
returns-in_default-read_counts c = counts_bad _ c.in-Some.ensures c.in_default-read_counts.ensures

pub returns-in_default-read_columns : goal.returns-in_default-read_columns
returns-in_default-read_columns c = columns_bad _ c.in-Some.ensures c.in-Some-read_counts.ensures c.in_default-read_columns.ensures

pub returns : goal.returns
returns c = head_good _ c.in-Some.ensures c.in-Some-read_counts.ensures c.in-Some-read_columns.ensures
