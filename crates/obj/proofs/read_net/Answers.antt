-- `obj::read_net` meets its contract. Assumes nothing.
use mathlib.Core.Path.{sym}
use Rattle.std.proofs.lemmas.Result.{err_from_is_err_and}
use Rattle.readingform.proofs.Cases.{too_long, not_the_form}
use Rattle.reading.proofs.Cases.{counts_refused}
use Rattle.objform.specs.Form.{parse_obj}
use Rattle.obj.proofs.Cases.{first_bad, other_bad, bad_here, good_here, good_fits, ItemsRead, form_read, verdict_read, items_room, items_read}
use Rattle.obj.proofs.read_net.Goals as goal

pub returns-then-text-gt-LONGEST : goal.returns-then-text-gt-LONGEST
returns-then-text-gt-LONGEST c = too_long parse_obj _ _ _ _ c.if-text-gt-LONGEST.true

pub returns-in_default : goal.returns-in_default
returns-in_default c = not_the_form parse_obj _ _ _ _ _ c.if-text-gt-LONGEST.false (first_bad _ (sym c.in_default.ensures.reads))

pub returns-in-Err : goal.returns-in-Err
returns-in-Err c =
    let i = c.in-Some.rounds.used in
    not_the_form parse_obj _ _ _ _ _ c.if-text-gt-LONGEST.false (other_bad c.args.text.now i (sym c.in-Some.ensures.reads) (bad_here c.args.text.now i c.in-Err.ensures))

pub overflow_cast-met : goal.overflow_cast-met
overflow_cast-met c =
    let i = c.in-Some.rounds.used in
    record { fits = (good_fits c.args.text.now i {v = c.in-Ok.met.vertices} {f = c.in-Ok.met.faces} c.if-text-gt-LONGEST.false (good_here c.args.text.now i c.in-Ok.ensures)).0 }

pub overflow_cast-met-2 : goal.overflow_cast-met-2
overflow_cast-met-2 c =
    let i = c.in-Some.rounds.used in
    record { fits = (good_fits c.args.text.now i {v = c.in-Ok.met.vertices} {f = c.in-Ok.met.faces} c.if-text-gt-LONGEST.false (good_here c.args.text.now i c.in-Ok.ensures)).1 }

pub returns-in_err-test_counts : goal.returns-in_err-test_counts
returns-in_err-test_counts c =
    let l = c.args.text.now in
    let i = c.in-Some.rounds.used in
    let p = err_from_is_err_and c.from_residual.result c.from_residual.ensures.1 in
    let read : ItemsRead l c.in-Some.rounds.value i c.in-Ok.met.vertices c.in-Ok.met.faces = record { short = c.if-text-gt-LONGEST.false; first = sym c.in-Some.ensures.reads; good = good_here l i c.in-Ok.ensures } in
    rw (p.1, p.2.reason, p.2.place) (counts_refused (form_read read) _ _ _ (verdict_read read c.in_err-test_counts.ensures))

pub store_items-requires : goal.store_items-requires
store_items-requires c =
    let l = c.args.text.now in
    let i = c.in-Some.rounds.used in
    let read : ItemsRead l c.in-Some.rounds.value i c.in-Ok.met.vertices c.in-Ok.met.faces = record { short = c.if-text-gt-LONGEST.false; first = sym c.in-Some.ensures.reads; good = good_here l i c.in-Ok.ensures } in
    items_room read c.in_ok-test_counts.ensures _ _ _ c.requires

pub returns : goal.returns
returns c =
    let l = c.args.text.now in
    let i = c.in-Some.rounds.used in
    let read : ItemsRead l c.in-Some.rounds.value i c.in-Ok.met.vertices c.in-Ok.met.faces = record { short = c.if-text-gt-LONGEST.false; first = sym c.in-Some.ensures.reads; good = good_here l i c.in-Ok.ensures } in
    items_read read c.in_ok-test_counts.ensures _ _ _ c.requires c.store_items.ensures
