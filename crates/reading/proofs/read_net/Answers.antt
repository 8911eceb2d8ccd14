-- `reading::read_net` meets its contract. Assumes nothing.
use native.Mathlib.Omega.{arith}
use Rattle.textform.specs.Form.{parse}
use Rattle.std.proofs.lemmas.Result.{err_from_is_err_and}
use Rattle.reading.specs.Answers.{net_in}
use Rattle.readingform.proofs.Cases.{too_long, not_the_form}
use Rattle.reading.proofs.Cases.{FormRead, tables_serve, counts_refused, net_read_lem}
use Rattle.reading.proofs.read_net.Goals as goal

pub returns-then-text-gt-LONGEST : goal.returns-then-text-gt-LONGEST
returns-then-text-gt-LONGEST c = too_long parse _ _ _ _ c.if-text-gt-LONGEST.true

pub returns-in-Err : goal.returns-in-Err
returns-in-Err c = not_the_form parse _ _ _ _ _ c.if-text-gt-LONGEST.false c.in-Err.ensures.reads

pub returns-in_err-test_counts : goal.returns-in_err-test_counts
returns-in_err-test_counts c =
    let p = err_from_is_err_and c.from_residual.result c.from_residual.ensures.1 in
    let read : FormRead parse c.args.text.now (net_in c.args.text.now c.in-Ok.form) = record { short = c.if-text-gt-LONGEST.false; form = c.in-Ok.ensures.reads } in
    rw (p.1, p.2.reason, p.2.place) (counts_refused read _ _ _ c.in_err-test_counts.ensures)

pub store_vertices-requires : goal.store_vertices-requires
store_vertices-requires c =
    let read : FormRead parse c.args.text.now (net_in c.args.text.now c.in-Ok.form) = record { short = c.if-text-gt-LONGEST.false; form = c.in-Ok.ensures.reads } in
    let t = tables_serve _ _ read c.in_ok-test_counts.ensures in
    let r = c.requires in
    (omega arith, omega arith)

pub store_faces-requires : goal.store_faces-requires
store_faces-requires c =
    let read : FormRead parse c.args.text.now (net_in c.args.text.now c.in-Ok.form) = record { short = c.if-text-gt-LONGEST.false; form = c.in-Ok.ensures.reads } in
    let t = tables_serve _ _ read c.in_ok-test_counts.ensures in
    let r = c.requires in
    omega arith

pub returns : goal.returns
returns c =
    let read : FormRead parse c.args.text.now (net_in c.args.text.now c.in-Ok.form) = record { short = c.if-text-gt-LONGEST.false; form = c.in-Ok.ensures.reads } in
    net_read_lem _ _ read c.in_ok-test_counts.ensures _ _ _ c.requires c.store_vertices.ensures c.store_faces.ensures
