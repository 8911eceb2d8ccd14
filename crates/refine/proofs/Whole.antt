-- The refining call as a whole: the admission, refusal 15, the rounds. Assumes nothing.
use mathlib.Core.Path.{◌≡◌, refl, sym, ap, ◌∙◌}
use mathlib.Core.List.{List}
use Prim.Native.Nat.{ℕ, ◌+◌, ◌-◌, ◌*◌, ◌/◌, ◌≤◌, ◌<◌}
use native.Mathlib.Omega.{arith}
use lib.ListN.{length, drop}
use Rattle.bounds.specs.Bounds.{max_refined_corners, max_tally}
use Rattle.curve.specs.Weights.{tension}
use Rattle.polygons.specs.Polygons.{shape_of}
use Rattle.tables.specs.Tables.{filled, cleared}
use Rattle.nets.specs.Buffers.{Buffers, buffers}
use Rattle.splitting.specs.WellFormed.{WellFormed}
use Rattle.splitting.proofs.Room.{control_vertices_le}
use Rattle.verdict.specs.Call.{room, call, vertex_count, face_count}
use Rattle.verdict.specs.Verdict.{Verdict, accepted, refused, or_else, verdict, work_after}
use Rattle.verdict.proofs.Accepted.{accepted_limits}
use Rattle.admission.specs.Admission.{RefusedCall, AdmittedCall}
use Rattle.admission.proofs.Laws.{admitted_cleared}
use Rattle.growth.specs.Growth.{splits, counts_of, grown_by, Growable}
use Rattle.growth.proofs.Laws.{vertices_after_lem}
use Rattle.origins.specs.Origins.{letters}
use Rattle.outcome.specs.Tally.{new_points, tally_verdict}
use Rattle.outcome.specs.Outcome.{refined_to, refused_with, Request, request, Outcome, outcome_on, call_of, to_add, request_verdict, lettered, refined_net, work_left, outcome_by, outcome}
use Rattle.outcome.proofs.Accepted.{accepted_well_formed}
use Rattle.outcome.proofs.Counts.{control_among}
use Rattle.outcome.proofs.Tally.{tally_if, tally_refused, few_points}
use Rattle.std.specs.Prelude.{Ok, Err}
use Rattle.reasons.specs.declared.Reason.TheVariants.{TallyLimit}
use Rattle.reasons.specs.declared.Refusal.{Refusal}
use Rattle.reasons.specs.Reasons.{number}
use Rattle.refine.specs.Answer.{answered}
use Rattle.refine.proofs.Laws.{Ran, corners_limit, corners_room, corners_steps}

-- the request with another work table
abbrev pub with_work : Request → List ℕ → Request
with_work a u = request a.tally a.rounds a.net a.tension (buffers a.buffers.vertices a.buffers.faces a.buffers.marks u) a.letters

module _ (a : Request) where
  -- ---- refused at the admission
  pub refused_outcome_lem : (x : Refusal) (w : List ℕ) → RefusedCall (call_of a) a.buffers.work (number x.reason) x.place w → answered (Err x) a.tally a.buffers.vertices a.buffers.faces a.buffers.marks a.letters.table w ≡ outcome a
  unfolding outcome request_verdict
  refused_outcome_lem x w c =
      rw c.refuses (λ i. outcome_on (refused_with (number x.reason) x.place) a.tally a.buffers.vertices a.buffers.faces a.buffers.marks a.letters.table (c.work i))

  -- the outcome, were v the verdict and w the work table that it leaves
  abbrev given : List ℕ → Verdict → Outcome
  given w accepted = let n = refined_net a in outcome_on (refined_to (vertex_count n) (face_count n)) (a.tally + to_add a) (filled n.vertices a.buffers.vertices) (filled n.faces a.buffers.faces) (filled n.marks a.buffers.marks) (lettered (letters (tension a.tension) a.net a.rounds) a.letters) w
  given w (refused r p) = outcome_on (refused_with r p) a.tally a.buffers.vertices a.buffers.faces a.buffers.marks a.letters.table w

  is_given : (u : List ℕ) (v : Verdict) → outcome_by v (with_work a u) (refined_net a) ≡ given (work_left (with_work a u)) v
  is_given u accepted = refl
  is_given u (refused r p) = refl

  module _ (last : ℕ) (u : List ℕ) (x : AdmittedCall (call_of a) last u) (s : length u ≡ length a.buffers.work) where
    pub same_outcome : drop (16 * last) u ≡ drop (16 * last) a.buffers.work → outcome (with_work a u) ≡ outcome a
    unfolding outcome request_verdict
    same_outcome d =
        let o = a.buffers in
        let c = call_of a in
        let w : work_after c u ≡ work_after c o.work = sym (admitted_cleared c last u x u (cleared (16 * last) u) refl refl) ∙ admitted_cleared c last u x o.work (cleared (16 * last) u) d refl in
        let t = tally_verdict a.tally (to_add a) in
        is_given u (request_verdict (with_work a u))
        ∙ (λ i. let e = call a.rounds a.net a.tension (room (length o.vertices) (length o.faces) (length o.marks) a.letters.asked (length a.letters.table) (s i)) in given (work_after e u) (or_else (verdict e) t))
        ∙ ap (λ (l : List ℕ). given l (or_else (verdict c) t)) w
        ∙ sym (is_given o.work (request_verdict a))

  module _ (last : ℕ) (ok : AdmittedCall (call_of a) last a.buffers.work) where
    well_formed : WellFormed a.net
    well_formed = accepted_well_formed (call_of a) ok.accepts

    -- ---- the new points
    pub growable : Growable a.rounds a.net.faces a.net.sides (length a.net.marks) a.buffers.work
    growable =
        let w = accepted_limits (call_of a) ok.accepts in
        record {
          rounds = w.few;
          sided = w.sided;
          few = corners_limit a last ok;
          vertices = control_vertices_le a.net well_formed;
          room = corners_room a last ok;
          mated = ok.mated;
        }

    pub new_points_lem : (v : ℕ) → v ≡ (grown_by (a.rounds + splits a.net.sides) (counts_of (shape_of a.net.sides) (length a.net.marks) a.net.faces)).vertices
        → (length a.net.marks ≤ v) × (v - length a.net.marks ≡ to_add a)
    unfolding new_points
    new_points_lem v e =
        let c = vertices_after_lem (tension a.tension) a.net well_formed a.rounds in
        let m = control_among a.tension a.net a.rounds in
        (omega arith, omega arith)

    pub few_new : to_add a ≤ max_refined_corners
    few_new = few_points (call_of a) ok.accepts

    -- ---- 15
    pub refused_15 : max_tally < a.tally + to_add a → (w : List ℕ) → w ≡ cleared (16 * last) a.buffers.work → answered (Err (record { reason = TallyLimit; place = 0 })) a.tally a.buffers.vertices a.buffers.faces a.buffers.marks a.letters.table w ≡ outcome a
    unfolding outcome request_verdict
    refused_15 h w c =
        let e = admitted_cleared (call_of a) last a.buffers.work ok a.buffers.work w refl c in
        rw (ok.accepts, tally_refused a.tally (to_add a) h) (λ i. outcome_on (refused_with 15 0) a.tally a.buffers.vertices a.buffers.faces a.buffers.marks a.letters.table (e i))

    -- ---- the rounds
    pub refined-outcome : a.tally + to_add a ≤ max_tally → (r : ℕ) (o : Buffers) → Ran a.tension a.rounds a.net a.buffers o last r
        → (l : List ℕ) → l ≡ lettered (letters (tension a.tension) a.net a.rounds) a.letters → answered (Ok (record { vertices = r; faces = last; points = a.tally + to_add a })) a.tally o.vertices o.faces o.marks l o.work ≡ outcome a
    unfolding outcome request_verdict
    refined-outcome h r o b l q =
        let f : last ≡ length (refined_net a).faces / 4 = (let c = corners_steps a last ok in omega arith) in
        let e = admitted_cleared (call_of a) last a.buffers.work ok a.buffers.work o.work refl b.work in
        rw (ok.accepts, tally_if a.tally (to_add a) h)
        (λ i. outcome_on (refined_to (b.count i) (f i)) (a.tally + to_add a) (b.vertices i) (b.faces i) (b.marks i) (q i) (e i))
