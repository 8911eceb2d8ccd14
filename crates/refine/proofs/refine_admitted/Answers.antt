-- `refine::refine_admitted` meets its contract: the new points, refusal 15, the load, the letters, the rounds, the clearing. Assumes nothing.
use mathlib.Core.Path.{◌≡◌, sym, ap, ◌∙◌}
use mathlib.Core.List.{List}
use Prim.Native.Nat.{ℕ, ◌+◌, ◌-◌, ◌*◌, ◌≤◌, ◌<◌}
use native.Mathlib.Omega.{arith}
use lib.ListN.{length}
use Rattle.nets.specs.Buffers.{Buffers, buffers}
use Rattle.outcome.specs.Outcome.{Request, request_on, to_add}
use Rattle.bounds.specs.Bounds.{max_refined_corners, max_tally}
use Rattle.splitting.specs.Splitting.{start_net}
use Rattle.refine.specs.Answer.{answered}
use Rattle.std.specs.Prelude.{Ok}
use Rattle.refine.proofs.Laws.{room_work_lem, last_le, loadable, corners_start, letters_fit, start_fits, prepared, letters_ran, ran}
use Rattle.refine.proofs.Whole.{growable, new_points_lem, few_new, refused_15, refined-outcome}
use borrow.Author.Tests.{ltb-true, ltb-false}
use Rattle.refine.proofs.refine_admitted.Goals as goal
use Rattle.refine.proofs.refine_admitted.Goals.{Start}

abbrev asked : (c : Start) → Request
asked c =
    let a = c.args in
    request_on a.points a.rounds a.net.vertices.now a.net.faces.now a.net.sides.now a.net.marks.now a.t a.out_vertices.now a.out_faces.now a.out_marks.now a.with_letters a.letters.now a.work.now

pub final_vertices-requires : goal.final_vertices-requires
final_vertices-requires c =
    growable (asked (goal.at.final_vertices-requires c).Start) c.args.last c.requires

pub overflow_sub-new : goal.overflow_sub-new
overflow_sub-new c =
    let new : (length c.args.net.marks.now ≤ c.final_vertices.result) × (c.final_vertices.result - length c.args.net.marks.now ≡ to_add (asked (goal.at.overflow_sub-new c).Start)) = new_points_lem (asked (goal.at.overflow_sub-new c).Start) c.args.last c.requires c.final_vertices.result c.final_vertices.ensures in
    new.0

pub exceeds-requires : goal.exceeds-requires
exceeds-requires c =
    let new : (length c.args.net.marks.now ≤ c.final_vertices.result) × (c.final_vertices.result - length c.args.net.marks.now ≡ to_add (asked (goal.at.exceeds-requires c).Start)) = new_points_lem (asked (goal.at.exceeds-requires c).Start) c.args.last c.requires c.final_vertices.result c.final_vertices.ensures in
    let few : to_add (asked (goal.at.exceeds-requires c).Start) ≤ max_refined_corners = few_new (asked (goal.at.exceeds-requires c).Start) c.args.last c.requires in
    let n = new.1 in let f = few in omega arith

pub overflow_mul-last : goal.overflow_mul-last
overflow_mul-last c =
    let l = last_le (asked (goal.at.overflow_mul-last c).Start) c.args.last c.requires in omega arith

pub clear-requires : goal.clear-requires
clear-requires c =
    let r = room_work_lem (asked (goal.at.clear-requires c).Start) c.args.last c.requires in omega arith

pub returns-then-exceeds : goal.returns-then-exceeds
returns-then-exceeds c =
    let new : (length c.args.net.marks.now ≤ c.final_vertices.result) × (c.final_vertices.result - length c.args.net.marks.now ≡ to_add (asked (goal.at.returns-then-exceeds c).Start)) = new_points_lem (asked (goal.at.returns-then-exceeds c).Start) c.args.last c.requires c.final_vertices.result c.final_vertices.ensures in
    let above : (max_tally < c.args.points + (c.final_vertices.result - length c.args.net.marks.now)) = ltb-true _ _ (sym c.exceeds.ensures ∙ c.if-exceeds.true) in
    let n = new.1 in
    let t = above in
    refused_15 (asked (goal.at.returns-then-exceeds c).Start) c.args.last c.requires (omega arith) c.clear.new.work c.clear.ensures

pub load-start-requires : goal.load-start-requires
load-start-requires c =
    loadable (asked (goal.at.load-start-requires c).Start) c.args.last c.requires

pub name_start-requires : goal.name_start-requires
name_start-requires c =
    let e = c.load-start.ensures.count in
    λ a. let f = start_fits (asked (goal.at.name_start-requires c).Start) c.args.last c.requires a in (omega (arith, f.0), omega (arith, f.1))

pub rounds-count-requires-clause-prepared : goal.rounds-count-requires-clause-prepared
rounds-count-requires-clause-prepared c =
    let loaded : Buffers = let o = c.load-start.new in buffers o.out_vertices o.out_faces o.out_marks o.work in
    let corners : 4 * c.quadrilaterals.result ≡ length (start_net (asked (goal.at.rounds-count-requires-clause-prepared c).Start).net).faces = ap (λ (n : ℕ). 4 * n) c.quadrilaterals.ensures ∙ corners_start (asked (goal.at.rounds-count-requires-clause-prepared c).Start) c.args.last c.requires in prepared (asked (goal.at.rounds-count-requires-clause-prepared c).Start) c.args.last c.requires loaded _ _ c.load-start.ensures c.load-start.auto.work corners

pub rounds-count-requires-clause-letters_fit : goal.rounds-count-requires-clause-letters_fit
rounds-count-requires-clause-letters_fit c =
    let loaded : Buffers = let o = c.load-start.new in buffers o.out_vertices o.out_faces o.out_marks o.work in
    let corners : 4 * c.quadrilaterals.result ≡ length (start_net (asked (goal.at.rounds-count-requires-clause-letters_fit c).Start).net).faces = ap (λ (n : ℕ). 4 * n) c.quadrilaterals.ensures ∙ corners_start (asked (goal.at.rounds-count-requires-clause-letters_fit c).Start) c.args.last c.requires in λ a. omega (arith, c.name_start.auto.letters, letters_fit (asked (goal.at.rounds-count-requires-clause-letters_fit c).Start) c.args.last c.requires _ corners a)

pub overflow_mul-last-2 : goal.overflow_mul-last-2
overflow_mul-last-2 c =
    let l = last_le (asked (goal.at.overflow_mul-last-2 c).Start) c.args.last c.requires in omega arith

pub clear-requires-2 : goal.clear-requires-2
clear-requires-2 c =
    let k = c.rounds-count.auto.work in
    let l = c.load-start.auto.work in
    let w = room_work_lem (asked (goal.at.clear-requires-2 c).Start) c.args.last c.requires in
    omega arith

pub returns : goal.returns
returns c =
    let new : (length c.args.net.marks.now ≤ c.final_vertices.result) × (c.final_vertices.result - length c.args.net.marks.now ≡ to_add (asked (goal.at.returns c).Start)) = new_points_lem (asked (goal.at.returns c).Start) c.args.last c.requires c.final_vertices.result c.final_vertices.ensures in
    let loaded : Buffers = let o = c.load-start.new in buffers o.out_vertices o.out_faces o.out_marks o.work in
    let named : List ℕ = c.name_start.new.letters in
    let corners : 4 * c.quadrilaterals.result ≡ length (start_net (asked (goal.at.returns c).Start).net).faces = ap (λ (n : ℕ). 4 * n) c.quadrilaterals.ensures ∙ corners_start (asked (goal.at.returns c).Start) c.args.last c.requires in
    let refined : Buffers = let o = c.rounds-count.new in buffers o.points o.faces o.marks o.work in
    let lettered : List ℕ = c.rounds-count.new.letters in
    let within : (c.args.points + (c.final_vertices.result - length c.args.net.marks.now) ≤ max_tally) = ltb-false _ _ (sym c.exceeds.ensures ∙ c.if-exceeds.false) in
    let n = new.1 in
    let t = within in
    let u = refined in
    let l = c.load-start.ensures in
    let k = c.load-start.auto.work in
    let w = c.clear-2.new.work in
    let o : Buffers = buffers u.vertices u.faces u.marks w in
    let z = ran (asked (goal.at.returns c).Start) c.args.last c.requires loaded _ _ l k corners _ u c.rounds-count.ensures.after w c.clear-2.ensures in
    let g = letters_ran (asked (goal.at.returns c).Start) c.args.last c.requires loaded _ _ l k corners _ u c.rounds-count.ensures.after named lettered (c.rounds-count.auto.letters ∙ c.name_start.auto.letters) c.name_start.ensures c.rounds-count.ensures.letters_after in
    ap (λ (d : ℕ). answered (Ok (record { vertices = c.rounds-count.result; faces = c.args.last; points = c.args.points + d })) c.args.points u.vertices u.faces u.marks lettered w) n
    ∙ refined-outcome (asked (goal.at.returns c).Start) c.args.last c.requires (omega arith) c.rounds-count.result o z lettered g
