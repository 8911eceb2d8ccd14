-- What the reader hands on, and the program's answer to it. Assumes nothing.
use mathlib.Core.Path.{◌≡◌, refl, ap, ap₂, ◌∙◌}
use mathlib.Core.Bool.{Bool, true, false, cond}
use mathlib.Core.List.{List, []}
use Prim.Native.Nat.{ℕ, ◌*◌}
use native.Mathlib.Omega.{arith}
use lib.Dec.{ltb}
use lib.IntN.{ℤ}
use lib.ListN.{length, take}
use Rattle.curve.specs.Weights.{tension}
use Rattle.nets.specs.Net as nets
use Rattle.nets.specs.Net.{front_net}
use Rattle.tables.proofs.Laws.{take-filled}
use Rattle.verdict.specs.Call.{lengths_of}
use Rattle.verdict.specs.Verdict.{Verdict, accepted, refused, or_else, limits_verdict, net_verdict}
use Rattle.verdict.proofs.Accepted.{or_both}
use Rattle.scheme.specs.Step.{steps}
use Rattle.origins.specs.Origins.{letters}
use Rattle.textform.specs.Limits.{longest_text}
use Rattle.textform.specs.Form.{TextNet, Parsed, parsed, bad_line}
use Rattle.textform.specs.Text.{refusal_text}
use Rattle.textform.proofs.Counts.{Stated}
use Rattle.readingform.specs.Loaded.{ReadAnswer, net_read, net_refused, LoadedText, loaded, coordinates_of, corners_of, marks_of, tables_of, program_room, counts_verdict, untouched, stored, judged, of_parsed, read_by}
use Rattle.readingform.proofs.Lengths.{length_coordinates, length_marks, length_corners}
use Rattle.readingform.proofs.Limits.{Served, passed_served}
use Rattle.programform.specs.Answer.{answer_by, refined_text, answer_to, parse_any, program_text}
use Rattle.programform.proofs.Parsing.{any_stated}

-- tables with a net of k rounds at their front, whose counts pass and whose answer, with letters or not, is `answer`
pub record Handed (k : ℕ) (rule : Bool) (v f : ℕ) (vs : List ℤ) (fs ms : List ℕ) (answer : List ℕ) : Type 0 where
  pub served : Served v f
  pub limits : limits_verdict k [] (lengths_of (nets.plain (front_net v (4 * f) vs fs ms)) program_room) ≡ accepted
  pub text : refined_text k rule (front_net v (4 * f) vs fs ms) ≡ answer

-- ---- what an answer says
abbrev asked : ReadAnswer → Bool
asked (net_read k rule v f) = rule
asked (net_refused r p) = false

abbrev first_number : ReadAnswer → ℕ
first_number (net_read k rule v f) = k
first_number (net_refused r p) = r

abbrev second_number : ReadAnswer → ℕ
second_number (net_read k rule v f) = v
second_number (net_refused r p) = p

abbrev third_number : ReadAnswer → ℕ
third_number (net_read k rule v f) = f
third_number (net_refused r p) = 0

module _ (zv : List ℤ) (zf zm : List ℕ) where
  -- ---- a net
  module _ (k : ℕ) (rule : Bool) (v f : ℕ) (vs : List ℤ) (fs ms : List ℕ) where
    by_counts : (d : Verdict) (n : TextNet) → loaded (net_read k rule v f) vs fs ms ≡ judged zv zf zm d n → (d ≡ accepted) × (loaded (net_read k rule v f) vs fs ms ≡ stored zv zf zm n)
    by_counts accepted n e = (refl, e)
    by_counts (refused r p) n e = let a : net_read k rule v f ≡ net_refused r p = ap (λ (x : LoadedText). x.answer) e in let z : ◌≡◌ {A = ℕ} 0 1 = cc in absurd (omega arith)

    of_net : (n : TextNet) → Stated (parsed n []) → counts_verdict n.counts ≡ accepted → loaded (net_read k rule v f) vs fs ms ≡ stored zv zf zm n
        → Handed k rule v f vs fs ms (refined_text n.counts.rounds n.rule (tables_of n))
    unfolding counts_verdict
    of_net n s a e =
        let ek : k ≡ n.counts.rounds = ap (λ (x : LoadedText). first_number x.answer) e in
        let er : rule ≡ n.rule = ap (λ (x : LoadedText). asked x.answer) e in
        let ev : v ≡ n.counts.vertices = ap (λ (x : LoadedText). second_number x.answer) e in
        let ef : f ≡ n.counts.faces = ap (λ (x : LoadedText). third_number x.answer) e in
        let lv = length_coordinates n.vertices in
        let lm = length_marks n.vertices in
        let lf = length_corners n.faces in
        let sv = s.0 in
        let sf = s.1 in
        let tv : take (3 * v) vs ≡ coordinates_of n.vertices = ap (λ (x : LoadedText). take (3 * v) x.vertices) e ∙ take-filled (coordinates_of n.vertices) zv (3 * v) (omega arith) in
        let tf : take (4 * f) fs ≡ corners_of n.faces = ap (λ (x : LoadedText). take (4 * f) x.faces) e ∙ take-filled (corners_of n.faces) zf (4 * f) (omega arith) in
        let tm : take v ms ≡ marks_of n.vertices = ap (λ (x : LoadedText). take v x.marks) e ∙ take-filled (marks_of n.vertices) zm v (omega arith) in
        let g : front_net v (4 * f) vs fs ms ≡ tables_of n = λ i. record { vertices = tv i; faces = tf i; marks = tm i } in
        let jv : length (take (3 * v) vs) ≡ 3 * n.counts.vertices = ap length tv ∙ omega arith in
        let jf : length (take (4 * f) fs) ≡ 4 * n.counts.faces = ap length tf ∙ omega arith in
        let jm : length (take v ms) ≡ n.counts.vertices = ap length tm ∙ omega arith in
        record {
          served = rw (ev, ef) (passed_served n.counts a);
          limits = rw (ek, jv, jf, jm) (or_both _ _ a).0;
          text = λ i. refined_text (ek i) (er i) (g i);
        }

    of_parsed_lem : (q : Parsed TextNet) → Stated q → loaded (net_read k rule v f) vs fs ms ≡ of_parsed zv zf zm q → Handed k rule v f vs fs ms (answer_to q)
    of_parsed_lem (parsed n l) s e =
        let j = by_counts (counts_verdict n.counts) n e in
        rw j.0 (of_net n s j.0 j.1)
    of_parsed_lem (bad_line n) s e = let a : net_read k rule v f ≡ net_refused 13 n = ap (λ (x : LoadedText). x.answer) e in let z : ◌≡◌ {A = ℕ} 0 1 = cc in absurd (omega arith)

    pub net_handed : (text : List ℕ) → loaded (net_read k rule v f) vs fs ms ≡ read_by parse_any text zv zf zm → Handed k rule v f vs fs ms (program_text text)
    unfolding read_by program_text
    net_handed text e = go (ltb longest_text (length text)) e
      where
        go : (b : Bool) → loaded (net_read k rule v f) vs fs ms ≡ cond b (untouched zv zf zm (net_refused 13 0)) (of_parsed zv zf zm (parse_any text))
            → Handed k rule v f vs fs ms (cond b (refusal_text 13 0) (answer_to (parse_any text)))
        go true e = let a : net_read k rule v f ≡ net_refused 13 0 = ap (λ (x : LoadedText). x.answer) e in let z : ◌≡◌ {A = ℕ} 0 1 = cc in absurd (omega arith)
        go false e = of_parsed_lem (parse_any text) (any_stated text) e

  -- ---- a refusal
  module _ (r p : ℕ) (vs : List ℤ) (fs ms : List ℕ) where
    same_text : (s q : ℕ) → loaded (net_refused r p) vs fs ms ≡ untouched zv zf zm (net_refused s q) → refusal_text r p ≡ refusal_text s q
    same_text s q e = ap₂ refusal_text (ap (λ (x : LoadedText). first_number x.answer) e) (ap (λ (x : LoadedText). second_number x.answer) e)

    of_counts : (d : Verdict) (n : TextNet) → loaded (net_refused r p) vs fs ms ≡ judged zv zf zm d n → refusal_text r p ≡ answer_by (or_else d (net_verdict (nets.plain (tables_of n)))) n.rule (steps (tension 4) n.counts.rounds (tables_of n)) (letters (tension 4) (nets.plain (tables_of n)) n.counts.rounds)
    of_counts accepted n e = let a : net_refused r p ≡ net_read n.counts.rounds n.rule n.counts.vertices n.counts.faces = ap (λ (x : LoadedText). x.answer) e in let z : ◌≡◌ {A = ℕ} 0 1 = cc in absurd (omega arith)
    of_counts (refused s q) n e = same_text s q e

    of_lines : (q : Parsed TextNet) → loaded (net_refused r p) vs fs ms ≡ of_parsed zv zf zm q → refusal_text r p ≡ answer_to q
    of_lines (parsed n l) e = of_counts (counts_verdict n.counts) n e
    of_lines (bad_line n) e = same_text 13 n e

    pub refusal_handed : (text : List ℕ) → loaded (net_refused r p) vs fs ms ≡ read_by parse_any text zv zf zm → refusal_text r p ≡ program_text text
    unfolding read_by program_text
    refusal_handed text e = go (ltb longest_text (length text)) e
      where
        go : (b : Bool) → loaded (net_refused r p) vs fs ms ≡ cond b (untouched zv zf zm (net_refused 13 0)) (of_parsed zv zf zm (parse_any text))
            → refusal_text r p ≡ cond b (refusal_text 13 0) (answer_to (parse_any text))
        go true e = same_text 13 0 e
        go false e = of_lines (parse_any text) e
