-- `family_face` meets its contract. Assumes nothing.
use native.Mathlib.Omega.{arith}
use Rattle.facerules.specs.Faces.{AllPlain}
use Rattle.topology.specs.Shape.{quads}
use Rattle.facepoints.proofs.Plain.{regular_edges, put_regular}
use Rattle.familyfaces.proofs.Family.{family_plain, inside_read, half_read}
use Rattle.familyfaces.proofs.FamilyEdges.family_face.Goals as goal
use Rattle.familyfaces.proofs.FamilyEdges.family_face.Goals.{Start}

plain : (c : Start) → AllPlain c.args.self.round.half_edges c.args.self.round.work.now c.args.f
plain c = let r = c.args.self.round in family_plain _ _ r.table.entries c.args.self.made _ c.requires.face.2 c.args.f (omega arith) (omega arith) c.requires.face.0

pub beyond-o-requires : goal.beyond-o-requires
beyond-o-requires c = let p = plain (goal.at.beyond-o-requires c).Start in (c.requires.face.0, p.side₀.mated)

pub entry_at-r-requires : goal.entry_at-r-requires
unfolding quads
entry_at-r-requires c = let w = c.args.self.made.whole in let f = c.requires.face.0 in let e = c.requires.face.1 in omega arith

pub entry_at-v-requires : goal.entry_at-v-requires
unfolding quads
entry_at-v-requires c = let w = c.args.self.made.whole in let f = c.requires.face.0 in let e = c.requires.face.1 in omega arith

pub plain_face-requires-clause-plain_edge : goal.plain_face-requires-clause-plain_edge
plain_face-requires-clause-plain_edge c =
    let r = c.args.self.round in
    let p = plain (goal.at.plain_face-requires-clause-plain_edge c).Start in
    let k = c.requires.face in
    regular_edges r.tension _ _ _ _ _ _ _ r.table k.0 p c.beyond-o.ensures.0 c.entry_at-p.ensures.0 (inside_read _ _ r.table.entries c.args.self.made _ _ _ k.0 k.1 c.entry_at-r.ensures.0) (half_read _ _ r.table.entries c.args.self.made _ _ _ k.0 k.1 c.entry_at-v.ensures.0)

pub returns : goal.returns
returns c =
    let r = c.args.self.round in
    let p = plain (goal.at.returns c).Start in
    let k = c.requires.face in
    put_regular _ _ _ _ _ _ _ _ r.table k.0 p c.beyond-o.ensures.0 c.entry_at-p.ensures.0 (inside_read _ _ r.table.entries c.args.self.made _ _ _ k.0 k.1 c.entry_at-r.ensures.0) (half_read _ _ r.table.entries c.args.self.made _ _ _ k.0 k.1 c.entry_at-v.ensures.0) _ _ c.plain_face.ensures
