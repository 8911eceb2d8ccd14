-- The refining call over the program's tables, and the text of what it gives. Assumes nothing.
use mathlib.Core.Path.{◌≡◌, refl, sym, ap, ap₂, ◌∙◌}
use mathlib.Core.Bool.{Bool, true, false}
use mathlib.Core.List.{List, []}
use Prim.Native.Nat.{ℕ, ◌+◌, ◌*◌, ◌/◌, ◌^◌, ◌≤◌, ◌<◌}
use native.Mathlib.Omega.{arith}
use lib.IntN.{ℤ, pos}
use lib.ListN.{length, get_or}
use Rattle.curve.specs.Weights.{tension}
use Rattle.nets.specs.Net.{Net, plain}
use Rattle.tables.specs.Tables.{filled}
use Rattle.verdict.specs.Call.{lengths_of, Call}
use Rattle.verdict.specs.Verdict.{Verdict, accepted, refused, limits_verdict, net_verdict, verdict}
use Rattle.verdict.proofs.Accepted.{within_if}
use Rattle.scheme.specs.Step.{steps}
use Rattle.splitting.specs.Splitting.{start_net}
use Rattle.splitting.proofs.Room.{refinable_vertices_le}
use Rattle.schemelaws.specs.Nets.{Refinable}
use Rattle.schemelaws.proofs.Steps.{refinable_steps}
use Rattle.tables.proofs.Laws.{filled_at}
use Rattle.outcome.specs.Outcome.{Result, refined_to, refused_with, Request, request, Outcome, call_of, lettered, outcome_by, outcome}
use Rattle.nets.specs.Buffers.{Buffers, letter_table}
use Rattle.origins.specs.Origins.{letters}
use Rattle.origins.proofs.Letters.{length-letters}
use Rattle.outcome.proofs.Accepted.{by_result, accepted_refinable}
use Rattle.outcome.proofs.Counts.{corners_grown}
use Rattle.outcome.proofs.Tally.{untallied}
use Rattle.std.specs.Prelude.{Ok, Err}
use Rattle.reasons.specs.declared.Refusal.{Refusal}
use Rattle.reasons.specs.Reasons.{number}
use Rattle.refine.specs.Answer.{answered}
use Rattle.refine.proofs.Laws.{by_faces}
use Rattle.textform.specs.Limits.{program_vertices, program_faces}
use Rattle.textform.specs.Text.{refusal_text}
use Rattle.readingform.specs.Loaded.{program_room}
use Rattle.readingform.proofs.Limits.{limits_either}
use Rattle.printingform.specs.Lines.{TextWritten}
use Rattle.printingform.specs.Tables.{text_vertex_at, text_face_at, tables_text, answer_room}
use Rattle.printingform.proofs.Writing.{tables_same}
use Rattle.programform.specs.Answer.{answer_by, refined_text}

-- ---- the lines of tables that a net was written to
module _ (n : Net) (vs : List ℤ) (fs ms : List ℕ) (e : length n.vertices ≡ 3 * length n.marks) where
  vertex_same : (i : ℕ) → i < length n.marks → text_vertex_at (filled n.vertices vs) (filled n.marks ms) i ≡ text_vertex_at n.vertices n.marks i
  vertex_same i h =
      let x = filled_at n.vertices vs (pos 0) (3 * i) (omega arith) in
      let y = filled_at n.vertices vs (pos 0) (3 * i + 1) (omega arith) in
      let z = filled_at n.vertices vs (pos 0) (3 * i + 2) (omega arith) in
      let m = filled_at n.marks ms 0 i h in
      λ j. record { x = x j; y = y j; z = z j; mark = m j }

  face_same : (i : ℕ) → i < length n.faces / 4 → text_face_at (filled n.faces fs) i ≡ text_face_at n.faces i
  face_same i h =
      let a = filled_at n.faces fs 0 (4 * i) (omega arith) in
      let b = filled_at n.faces fs 0 (4 * i + 1) (omega arith) in
      let c = filled_at n.faces fs 0 (4 * i + 2) (omega arith) in
      let d = filled_at n.faces fs 0 (4 * i + 3) (omega arith) in
      λ j. record { a = a j; b = b j; c = c j; d = d j }

letter_same : (rule : Bool) (s t : List ℕ) → rule ≡ true → (i : ℕ) → i < length s → get_or (lettered s (letter_table rule t)) i 0 ≡ get_or s i 0
letter_same true s t e i h = filled_at s t 0 i h
letter_same false s t e i h = let z : ◌≡◌ {A = ℕ} 0 1 = cc in absurd (omega arith)

-- ---- what a result says
abbrev vertex_number : Result → ℕ
vertex_number (refined_to v f) = v
vertex_number (refused_with r p) = r

abbrev face_number : Result → ℕ
face_number (refined_to v f) = f
face_number (refused_with r p) = p

module _ (k : ℕ) (rule : Bool) (m : Net) (o : Buffers) (l : List ℕ) (lv : length o.vertices ≡ 12 * program_faces) (lf : length o.faces ≡ 4 * program_faces) (lm : length o.marks ≡ 4 * program_faces) (ll : length l ≡ 4 * program_faces) (lw : length o.work ≡ 16 * program_faces)
    (h : limits_verdict k [] (lengths_of (plain m) program_room) ≡ accepted) where
  -- the call with a tally of its own, from zero
  abbrev asked : Request
  asked = request 0 k (plain m) 4 o (letter_table rule l)

  abbrev called : Call
  called = call_of asked

  by_net : verdict called ≡ net_verdict (plain m)
  unfolding verdict
  by_net = rw (lv, lf, lm, ll, lw, limits_either rule k (length m.vertices) (length m.faces) (length m.marks), h)

  abbrev given : Verdict → Outcome
  given v = outcome_by v asked (steps (tension 4) k m)

  outcome_is : outcome asked ≡ given (net_verdict (plain m))
  unfolding outcome start_net
  outcome_is = ap given (untallied asked refl ∙ by_net)

  -- a refusal
  by_refused : (v : Verdict) (r p : ℕ) → refused_with r p ≡ (given v).result → refusal_text r p ≡ answer_by v rule (steps (tension 4) k m) (letters (tension 4) (plain m) k)
  by_refused accepted r p e = let z : ◌≡◌ {A = ℕ} 0 1 = cc in absurd (omega arith)
  by_refused (refused s q) r p e = ap₂ refusal_text (ap vertex_number e) (ap face_number e)

  module _ (t : Buffers) (t₂ : List ℕ) (points : ℕ) where
    pub refused_text : (x : Refusal) → answered (Err x) points t.vertices t.faces t.marks t₂ t.work ≡ outcome asked → refusal_text (number x.reason) x.place ≡ refined_text k rule m
    refused_text x e = by_refused (net_verdict (plain m)) (number x.reason) x.place (ap (λ (y : Outcome). y.result) (e ∙ outcome_is))

    -- a refined net
    module _ (v f : ℕ) (e : answered (Ok (record { vertices = v; faces = f; points = points })) 0 t.vertices t.faces t.marks t₂ t.work ≡ outcome asked) where
      accepts : net_verdict (plain m) ≡ accepted
      accepts = by_result (net_verdict (plain m)) asked (steps (tension 4) k m) v f (sym (ap (λ (x : Outcome). x.result) (e ∙ outcome_is)))

      is : answered (Ok (record { vertices = v; faces = f; points = points })) 0 t.vertices t.faces t.marks t₂ t.work ≡ given accepted
      is = e ∙ outcome_is ∙ ap given accepts

      vertex_count_lem : v ≡ length (steps (tension 4) k m).marks
      vertex_count_lem = ap (λ (x : Outcome). vertex_number x.result) is

      face_count_lem : f ≡ length (steps (tension 4) k m).faces / 4
      face_count_lem = ap (λ (x : Outcome). face_number x.result) is

      refinable : Refinable m
      unfolding start_net
      refinable = accepted_refinable (called) (by_net ∙ accepts)

      pub served : (v ≤ program_vertices) × (f ≤ program_faces)
      served =
          let a = vertex_count_lem in
          let b = face_count_lem in
          let w = within_if k [] (lengths_of (plain m) program_room) h in
          let c = w.room_faces in
          let q = w.sided.fours refl in
          let g = corners_grown 4 m k in
          let l = refinable_vertices_le (steps (tension 4) k m) (refinable_steps (tension 4) m refinable k) in
          let s = by_faces (length m.faces) (4 ^ k) q in
          (omega arith, omega arith)

      pub refined_text_lem : tables_text rule v f t.vertices t.faces t.marks t₂ ≡ refined_text k rule m
      unfolding start_net
      refined_text_lem =
          let n = steps (tension 4) k m in
          let s = (refinable_steps (tension 4) m refinable k).threes in
          let c : length (letters (tension 4) (plain m) k) ≡ length n.marks = length-letters (tension 4) (plain m) k in
          (λ i. tables_text rule (vertex_count_lem i) (face_count_lem i) (is i).buffers.vertices (is i).buffers.faces (is i).buffers.marks (is i).letters)
          ∙ tables_same rule (length n.marks) (length n.faces / 4) (filled n.vertices o.vertices) n.vertices (filled n.faces o.faces) n.faces (filled n.marks o.marks) n.marks
          (lettered (letters (tension 4) (plain m) k) (letter_table rule l)) (letters (tension 4) (plain m) k) (vertex_same n o.vertices o.faces o.marks s) (face_same n o.vertices o.faces o.marks s)
          (λ e i h. letter_same rule (letters (tension 4) (plain m) k) l e i (omega arith))
          ∙ ap (λ (x : Verdict). answer_by x rule n (letters (tension 4) (plain m) k)) (sym accepts)

-- the same text, and a larger bound
pub wider : (d o : List ℕ) (r : ℕ) (s t : List ℕ) (most : ℕ) → TextWritten d o r s most → s ≡ t → most ≤ answer_room → TextWritten d o r t answer_room
wider d o r s t most w e h = let f = w.fits in record { bytes = w.bytes ∙ ap (λ (x : List ℕ). filled x d) e; long = w.long ∙ ap length e; fits = omega arith }
