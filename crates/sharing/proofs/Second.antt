-- The second net after the first, and the work table after both checks. Assumes nothing.
use mathlib.Core.Path.{◌≡◌, refl, sym, ap, ◌∙◌}
use mathlib.Core.List.{List, ◌∷◌, ◌++◌}
use Prim.Native.Nat.{ℕ, zero, suc, ◌*◌, ◌^◌, ◌≤◌, ◌<◌, max}
use native.Mathlib.Decide.{dec_lt}
use native.Mathlib.Omega.{arith}
use lib.ListN.{length, drop, replicate}
use Rattle.bounds.specs.Bounds.{max_faces}
use Rattle.lists.proofs.Parts.{drop_later}
use Rattle.tables.specs.Tables.{cleared}
use Rattle.tables.proofs.Laws.{drop-cleared, cleared_over}
use Rattle.verdict.specs.Verdict.{Verdict, accepted, call_verdict, net_verdict, verdict, work_after}
use Rattle.verdict.proofs.Accepted.{or_both}
use Rattle.admission.specs.Answer.{Checked, checked_as, checked}
use Rattle.admission.specs.Admission.{RefusedCall, AdmittedCall}
use Rattle.admission.proofs.Laws.{admitted_cleared}
use Rattle.seamtest.specs.SeamTest.{SeamSide, alone_in, seam_verdict, seam_edges, seam_work, SeamTested, seam_tested_as, seam_tested}
use Rattle.seamtest.proofs.Agree.{no_edges}
use Rattle.std.specs.Prelude.{Result, Err}
use Rattle.reasons.specs.declared.Refusal.{Refusal}
use Rattle.reasons.specs.Reasons.{number, refused_as}
use Rattle.sharing.specs.Sharing.{shared_as}
use Rattle.sharing.specs.Walks.{faces_of, FirstPassed, second_tested, BothPassed, Answered}
use Rattle.sharing.proofs.Laws.{faces_few, faces_room, link_room}

tested_as : {v v' : Verdict} {e e' : ℕ} {w w' : List ℕ} → v ≡ v' → e ≡ e' → w ≡ w' → seam_tested_as v e w ≡ seam_tested_as v' e' w'
tested_as p q r = λ i. seam_tested_as (p i) (q i) (r i)

-- ---- the work table
zeros_again : (m n : ℕ) → m ≤ n → (r : List ℕ) → replicate m 0 ++ drop m (replicate n 0 ++ r) ≡ replicate n 0 ++ r
zeros_again zero n h r = refl
zeros_again (suc m) zero h r = absurd (omega arith)
zeros_again (suc m) (suc n) h r = ap (λ (t : List ℕ). 0 ∷ t) (zeros_again m n (omega arith) r)

-- what is zero already stays so
cleared_less : (m n : ℕ) (w : List ℕ) → m ≤ n → cleared m (cleared n w) ≡ cleared n w
unfolding cleared
cleared_less m n w h = zeros_again m n h (drop n w)

cleared_twice : (n : ℕ) (w : List ℕ) → cleared n (cleared n w) ≡ cleared n w
cleared_twice n w = cleared_over n w (cleared n w) (drop-cleared n w)

-- ---- the first net
module _ (a b : SeamSide) (w w' : List ℕ) where
  pub first_refused : (x : Refusal) → checked_as (refused_as x) w' ≡ checked (alone_in a (length w)) w → shared_as (Err x) w' ≡ seam_tested a b w
  unfolding checked seam_tested seam_work seam_verdict
  first_refused x e =
      let v : verdict (alone_in a (length w)) ≡ refused_as x = sym (ap (λ (c : Checked). c.verdict) e) in
      let y : seam_verdict a b (length w) ≡ refused_as x = rw v refl in
      tested_as (sym y) (sym (no_edges a b (length w) (number x.reason) x.place y)) (rw v (ap (λ (c : Checked). c.work) e))

  module _ (k : length w' ≡ length w) (e : checked_as accepted w' ≡ checked (alone_in a (length w)) w) where
    passes : verdict (alone_in a (length w)) ≡ accepted
    unfolding checked
    passes = sym (ap (λ (c : Checked). c.verdict) e)

    left_work : w' ≡ work_after (alone_in a (length w)) w
    unfolding checked
    left_work = ap (λ (c : Checked). c.work) e

    left_zeros : w' ≡ cleared (16 * faces_of a.net) w
    unfolding verdict
    left_zeros =
        let c = (or_both (call_verdict (alone_in a (length w))) (net_verdict a.net) passes).0 in
        let f : faces_of a.net * 4 ^ 0 ≡ faces_of a.net = omega arith in
        left_work ∙ rw c (ap (λ (n : ℕ). cleared (16 * n) w) f)

    pub first-passed : FirstPassed a w'
    first-passed = record {
      accepts = ap (λ (n : ℕ). verdict (alone_in a n)) k ∙ passes;
      zeros = let n : ℕ = 16 * faces_of a.net in left_zeros ∙ sym (cleared_twice n w) ∙ ap (cleared n) (sym left_zeros);
    }

    pub after_first : (t : SeamTested) → t ≡ second_tested a b w' → t ≡ seam_tested a b w
    unfolding seam_tested seam_work
    after_first t h =
        let v = passes in
        h
        ∙ tested_as (ap (seam_verdict a b) k) (ap (seam_edges a b) k) (rw v (ap (λ (n : ℕ). work_after (alone_in b n) w') k ∙ ap (work_after (alone_in b (length w))) left_work))

-- ---- the second
module _ (a b : SeamSide) (w : List ℕ) (ok : FirstPassed a w) where
  pub second_refused : (x : Refusal) (w₁ : List ℕ) → RefusedCall (alone_in b (length w)) w (number x.reason) x.place w₁ → shared_as (Err x) w₁ ≡ second_tested a b w
  unfolding seam_verdict
  second_refused x w₁ c =
      let y : seam_verdict a b (length w) ≡ refused_as x = rw (ok.accepts, c.refuses) refl in
      tested_as (sym y) (sym (no_edges a b (length w) (number x.reason) x.place y)) c.work

  module _ (w₁ : List ℕ) (k₁ : length w₁ ≡ length w) (g : ℕ) (c : AdmittedCall (alone_in b (length w)) g w₁) (d : drop (16 * g) w₁ ≡ drop (16 * g) w) (f : ℕ)
      (e : f ≡ max (faces_of a.net) g) where
    faces_second : g ≡ faces_of b.net
    faces_second = let x = c.final in omega arith

    record Larger : Type 0 where
      first : faces_of a.net ≤ f
      second : g ≤ f
      few : f ≤ max_faces
      room : 16 * f ≤ length w₁
      below : faces_of a.net < g → f ≡ g
      above : g ≤ faces_of a.net → f ≡ faces_of a.net

    larger : Larger
    larger =
        let n₁ = faces_few a (length w) ok.accepts in
        let r₁ = faces_room a (length w) ok.accepts in
        let n₂ = faces_few b (length w) c.accepts in
        let r₂ = faces_room b (length w) c.accepts in
        let x = faces_second in
        record { first = omega arith; second = omega arith; few = omega arith; room = omega arith; below = λ h. omega arith; above = λ h. omega arith }

    pub both_passed : BothPassed a b f w₁
    both_passed =
        let l = larger in
        let x = faces_second in
        let y = l.second in
        record {
          first = ap (λ (n : ℕ). verdict (alone_in a n)) k₁ ∙ ok.accepts;
          second = ap (λ (n : ℕ). verdict (alone_in b n)) k₁ ∙ c.accepts;
          linked = record {
            shaped = c.shaped;
            room = let r = (link_room b (length w) c.accepts w₁ f (omega arith) l.room).room in omega arith;
            mated = c.mated;
          };
          first_faces = l.first;
          second_faces = omega arith;
          few = l.few;
          room = l.room;
        }

    pub second_cleared : (r : Result ℕ Refusal) (w₂ w₃ : List ℕ) → Answered a b f w₁ r w₂ → w₃ ≡ cleared (16 * f) w₂ → shared_as r w₃ ≡ second_tested a b w
    second_cleared r w₂ w₃ t h =
        tested_as (t.verdict ∙ ap (seam_verdict a b) k₁) (t.edges ∙ ap (seam_edges a b) k₁) (admitted_cleared (alone_in b (length w)) g w₁ c w w₃ d (go (dec_lt (faces_of a.net) g)))
      where
        go : Dec (faces_of a.net < g) → w₃ ≡ cleared (16 * g) w₁
        go (yes x) =
            let z = larger.below x in
            h ∙ cleared_over (16 * f) w₁ w₂ t.rest ∙ ap (λ (n : ℕ). cleared (16 * n) w₁) z
        go (no x) =
            let l = larger in
            let lb = l.second in
            let z = l.above (omega arith) in
            let n : ℕ = 16 * faces_of a.net in
            let q : drop n w₂ ≡ drop n w = ap (λ (m : ℕ). drop (16 * m) w₂) (sym z) ∙ t.rest ∙ drop_later (16 * g) (16 * f) w₁ w (omega arith) d ∙ ap (λ (m : ℕ). drop (16 * m) w) z in
            h ∙ ap (λ (m : ℕ). cleared (16 * m) w₂) z ∙ cleared_over n w w₂ q ∙ sym (cleared_less (16 * g) n w (omega arith))
            ∙ ap (cleared (16 * g)) (sym ok.zeros) ∙ sym (cleared_over (16 * g) w w₁ d)
