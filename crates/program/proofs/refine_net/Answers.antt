-- `program::refine_net` meets its contract. Assumes nothing.
use mathlib.Core.Path.{◌≡◌, sym, ap, ◌∙◌}
use mathlib.Core.List.{List}
use Prim.Native.Nat.{ℕ, ◌*◌}
use native.Mathlib.Omega.{arith}
use lib.IntN.{pos}
use lib.ListN.{length, replicate, length-replicate}
use Rattle.nets.specs.Net.{Net, plain}
use Rattle.nets.specs.Buffers.{Buffers, buffers, letter_table}
use Rattle.outcome.specs.Outcome.{Request, request, outcome}
use Rattle.std.specs.Prelude.{Result}
use Rattle.reasons.specs.declared.Refusal.{Refusal}
use Rattle.refine.specs.declared.RefinedCounts.{RefinedCounts}
use Rattle.refine.specs.Answer.{answered}
use Rattle.textform.specs.Limits.{program_faces}
use Rattle.printingform.proofs.Writing.{every_answer_fits}
use Rattle.program.proofs.Refined.{served, refined_text_lem, refused_text, wider}
use Rattle.program.proofs.refine_net.Goals as goal
use Rattle.program.proofs.refine_net.Goals.{After-refine-answer}

-- the tables before the call
abbrev zeros : Buffers
zeros = record { vertices = replicate (12 * program_faces) (pos 0); faces = replicate (4 * program_faces) 0; marks = replicate (4 * program_faces) 0; work = replicate (16 * program_faces) 0 }

abbrev unnamed : List ℕ
unnamed = replicate (4 * program_faces) 0

long-vertices : length zeros.vertices ≡ 12 * program_faces
long-vertices = length-replicate (12 * program_faces) (pos 0)

long-corners : length zeros.faces ≡ 4 * program_faces
long-corners = length-replicate {A = ℕ} (4 * program_faces) 0

long-marks : length zeros.marks ≡ 4 * program_faces
long-marks = length-replicate {A = ℕ} (4 * program_faces) 0

long-letters : length unnamed ≡ 4 * program_faces
long-letters = length-replicate {A = ℕ} (4 * program_faces) 0

long-work : length zeros.work ≡ 16 * program_faces
long-work = length-replicate {A = ℕ} (16 * program_faces) 0

-- ---- the call, and what it gives
abbrev net_of : After-refine-answer → Net
net_of c = record { vertices = c.args.vertices.now; faces = c.args.faces.now; marks = c.args.marks.now }

abbrev asked : After-refine-answer → Request
asked c = request 0 c.args.rounds (plain (net_of c)) 4 zeros (letter_table c.args.rule unnamed)

abbrev after : After-refine-answer → Buffers
after c = let o = c.refine-answer.new in buffers o.out_vertices o.out_faces o.out_marks o.work

given : (c : After-refine-answer) (a : Result RefinedCounts Refusal) → c.refine-answer.result ≡ a
    → answered a 0 (after c).vertices (after c).faces (after c).marks c.refine-answer.new.letters (after c).work ≡ outcome (asked c)
given c a e =
    sym (ap (λ (b : Result RefinedCounts Refusal). answered b 0 (after c).vertices (after c).faces (after c).marks c.refine-answer.new.letters (after c).work) e)
    ∙ c.refine-answer.ensures

pub write_net-requires : goal.write_net-requires
write_net-requires c =
    let d = (goal.at.write_net-requires c).After-refine-answer in
    let t = served c.args.rounds c.args.rule (net_of d) zeros unnamed long-vertices long-corners long-marks long-letters long-work c.requires.0 (after d) c.refine-answer.new.letters _ _ _ (given d _ c.in-Ok.is) in
    let a = t.0 in
    let b = t.1 in
    let k = c.refine-answer.auto in
    let lv = k.out_vertices ∙ long-vertices in
    let lf = k.out_faces ∙ long-corners in
    let lm = k.out_marks ∙ long-marks in
    let r = c.requires.1 in
    let ll = k.letters ∙ long-letters in
    let f = every_answer_fits c.args.rule _ _ a b in
    (omega arith, omega arith, omega arith, λ _. omega arith, omega arith)

pub returns-in-Ok : goal.returns-in-Ok
returns-in-Ok c =
    let d = (goal.at.returns-in-Ok c).After-refine-answer in
    let e = given d _ c.in-Ok.is in
    let t = served c.args.rounds c.args.rule (net_of d) zeros unnamed long-vertices long-corners long-marks long-letters long-work c.requires.0 (after d) c.refine-answer.new.letters _ _ _ e in
    wider _ _ _ _ _ _ c.write_net.ensures
    (refined_text_lem c.args.rounds c.args.rule (net_of d) zeros unnamed long-vertices long-corners long-marks long-letters long-work c.requires.0 (after d) c.refine-answer.new.letters _ _ _ e)
    (every_answer_fits c.args.rule _ _ t.0 t.1)

pub returns-in-Err : goal.returns-in-Err
returns-in-Err c =
    let d = (goal.at.returns-in-Err c).After-refine-answer in
    let n = c.number.ensures in
    wider _ _ _ _ _ _ c.write_refusal.ensures
    (rw n (refused_text c.args.rounds c.args.rule (net_of d) zeros unnamed long-vertices long-corners long-marks long-letters long-work c.requires.0 (after d) c.refine-answer.new.letters _ _ (given d _ c.in-Err.is)))
    (omega arith)
