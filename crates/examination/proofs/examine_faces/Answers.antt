-- `examination::examine_faces` meets its contract: refusal 8, then the sides. Assumes nothing.
use mathlib.Core.Path.{◌≡◌, ◌∙◌}
use Prim.Native.Nat.{◌*◌}
use native.Mathlib.Omega.{arith}
use mathlib.Core.List.{List}
use Prim.Native.Nat.{ℕ}
use lib.ListN.{length, drop}
use Rattle.std.proofs.Common.{rules}
use Rattle.verdict.specs.Verdict.{faces_verdict}
use Rattle.refusals.specs.Refusals.{isolated}
use Rattle.polygons.specs.Polygons.{shape_of}
use Rattle.lists.proofs.Parts.{drop_later}
use Rattle.reasons.specs.Reasons.{refused_as, verdict_of}
use Rattle.adjacency.specs.Chains.{Tables, CornersBelow}
use Rattle.adjacency.proofs.Chains.{tables_kept, corners_below_if}
use Rattle.examination.proofs.Laws.{joined, chain_tables, hit_found, pass_found, none_found, refused_net, no_faces, few_corners}
use Rattle.examination.proofs.examine_faces.Goals as goal
use Rattle.examination.proofs.examine_faces.Goals.{Else-net-nv}

corners : (c : Else-net-nv) → CornersBelow (length c.args.net.marks.now) c.args.net.faces.now
corners c = corners_below_if (shape_of c.args.net.sides.now) (length c.args.net.marks.now) c.args.net.faces.now c.requires.faces_value

tables : (c : Else-net-nv) → Tables c.args.net.sides.now c.args.net.faces.now c.args.work.now
tables c = chain_tables c.args.net.sides.now c.args.net.faces.now c.args.work.now (length c.args.net.marks.now) c.requires.check_tables c.if-net-nv.false (corners c)

-- the chains leave the tables as they are
chained : (s l w w' : List ℕ) → length w' ≡ length w → drop (3 * length l) w' ≡ drop (3 * length l) w → Tables s l w → Tables s l w'
chained s l w w' k o t = tables_kept s l w w' (3 * length l) (omega arith) k o t

pub returns-then-net-eq0 : goal.returns-then-net-eq0
returns-then-net-eq0 c =
    no_faces c.args.net.sides.now c.args.net.faces.now c.args.net.marks.now c.args.work.now _ c.if-net-eq0.true (rw c.then_some.ensures at c.refuse_at.ensures)

pub returns-then-net-nv : goal.returns-then-net-nv
returns-then-net-nv c =
    few_corners c.args.net.sides.now c.args.net.faces.now c.args.net.marks.now c.args.work.now _ _ _ c.if-net-nv.true c.first_isolated.ensures.0 c.refuse_at-then-net-nv.ensures c.first_isolated.ensures.1

pub build_chains-requires : goal.build_chains-requires
build_chains-requires c = tables (goal.at.build_chains-requires c).Else-net-nv

pub first_empty-requires-clause-tables : goal.first_empty-requires-clause-tables
first_empty-requires-clause-tables c =
    chained c.args.net.sides.now c.args.net.faces.now c.args.work.now c.build_chains.new.work c.build_chains.auto.work c.build_chains.ensures.same_outside.rest
    (tables (goal.at.first_empty-requires-clause-tables c).Else-net-nv)

pub returns-in_err-refuse_at : goal.returns-in_err-refuse_at
unfolding faces_verdict
returns-in_err-refuse_at c =
    let l = c.args.net.faces.now in
    let e : verdict_of c.from_residual.result ≡ refused_as c.in_err-refuse_at.field-0.0 = search rules in
    refused_net _ c.args.net.sides.now l c.args.work.now _ _ _ e (hit_found 8 (isolated l) (length c.args.net.marks.now) _ _ _ c.first_empty.ensures c.in_err-refuse_at.ensures)
    (drop_later (3 * length l) (4 * length l) _ _ (omega arith) c.build_chains.ensures.same_outside.rest)

pub examine_adjacency-requires-clause-slot_tables : goal.examine_adjacency-requires-clause-slot_tables
examine_adjacency-requires-clause-slot_tables c =
    let e = (goal.at.examine_adjacency-requires-clause-slot_tables c).Else-net-nv in
    let k = c.build_chains.auto.work in
    let r = c.requires.check_tables.room in
    record {
      tables = chained c.args.net.sides.now c.args.net.faces.now c.args.work.now c.build_chains.new.work k c.build_chains.ensures.same_outside.rest (tables e);
      chains = c.build_chains.ensures.chained;
      corners = corners e;
      fewer = c.if-net-nv.false;
      room = omega arith;
    }

pub examine_adjacency-requires-clause-joined : goal.examine_adjacency-requires-clause-joined
examine_adjacency-requires-clause-joined c =
    let l = c.args.net.faces.now in
    let v = length c.args.net.marks.now in
    joined l v (none_found 8 (isolated l) v _ c.first_empty.ensures c.in_ok-refuse_at.ensures)

pub returns : goal.returns
unfolding faces_verdict
returns c =
    let l = c.args.net.faces.now in
    let e = c.examine_adjacency.ensures in
    record {
      verdict = pass_found 8 (isolated l) (length c.args.net.marks.now) _ _ _ c.first_empty.ensures c.in_ok-refuse_at.ensures e.verdict;
      mated = e.mated;
      rest = e.rest ∙ drop_later (3 * length l) (4 * length l) _ _ (omega arith) c.build_chains.ensures.same_outside.rest;
    }
