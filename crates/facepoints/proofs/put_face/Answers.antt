-- `put_face` meets its contract. Assumes nothing.
use Prim.Native.Nat.{◌+◌, ◌<◌}
use mathlib.Core.Path.{sym, ◌∙◌}
use borrow.Author.Tests.{ltb-true}
use Rattle.edgeentries.specs.Entry.{wide_flag}
use Rattle.facerules.specs.Faces.{AllPlain}
use Rattle.facepoints.proofs.Plain.{all_plain, regular_edges, put_regular}
use Rattle.facepoints.proofs.put_face.Goals as goal

pub plain_face-requires-clause-plain_edge : goal.plain_face-requires-clause-plain_edge
plain_face-requires-clause-plain_edge c =
    let near : c.entry_at-p.result + c.entry_at-q.result + c.entry_at-r.result + c.entry_at-s.result < wide_flag = ltb-true _ _ (sym c.is_plain.ensures ∙ c.if-is_plain.true) in
    let plain : AllPlain c.args.round.half_edges c.args.round.work.now c.args.f = all_plain c.args.round.tension _ _ _ _ _ _ _ _ _ _ _ c.args.round.table c.requires.0 c.entry_at-p.ensures.0 c.entry_at-q.ensures.0 c.entry_at-r.ensures.0 c.entry_at-s.ensures.0
    c.beyond-o.ensures.0 c.beyond-u.ensures.0 c.beyond-v.ensures.0 c.beyond-w.ensures.0 near (ltb-true _ _ (sym c.is_plain-then-is_plain.ensures ∙ c.if-is_plain-2.true)) in regular_edges c.args.round.tension _ _ _ _ _ _ _ c.args.round.table c.requires.0 plain c.beyond-o.ensures.0 c.entry_at-p.ensures.0 c.entry_at-r.ensures.0 c.beyond-v.ensures.0

pub returns-then-is_plain-2 : goal.returns-then-is_plain-2
returns-then-is_plain-2 c =
    let near : c.entry_at-p.result + c.entry_at-q.result + c.entry_at-r.result + c.entry_at-s.result < wide_flag = ltb-true _ _ (sym c.is_plain.ensures ∙ c.if-is_plain.true) in
    let plain : AllPlain c.args.round.half_edges c.args.round.work.now c.args.f = all_plain c.args.round.tension _ _ _ _ _ _ _ _ _ _ _ c.args.round.table c.requires.0 c.entry_at-p.ensures.0 c.entry_at-q.ensures.0 c.entry_at-r.ensures.0 c.entry_at-s.ensures.0
    c.beyond-o.ensures.0 c.beyond-u.ensures.0 c.beyond-v.ensures.0 c.beyond-w.ensures.0 near (ltb-true _ _ (sym c.is_plain-then-is_plain.ensures ∙ c.if-is_plain-2.true)) in
    put_regular _ _ _ _ _ _ _ _ c.args.round.table c.requires.0 plain c.beyond-o.ensures.0 c.entry_at-p.ensures.0 c.entry_at-r.ensures.0 c.beyond-v.ensures.0 _ _ c.plain_face.ensures
