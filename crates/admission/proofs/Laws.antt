-- How the limits and the tests of the net fit together. Assumes nothing.
use mathlib.Core.Path.{◌≡◌, refl, sym, ap, ◌∙◌}
use mathlib.Core.List.{List, [], ◌∷◌}
use Prim.Native.Nat.{ℕ, ◌*◌, ◌^◌, ◌≤◌, ◌<◌}
use native.Mathlib.Nat.{one-le-pow, mul-le-mul_left}
use native.Mathlib.Omega.{arith}
use native.Mathlib.Decide.{dec_lt}
use lib.Dec.{lit≤}
use lib.ListN.{length, drop}
use Rattle.bounds.specs.Bounds.{max_refined_faces}
use Rattle.polygons.specs.Polygons.{shape_of, Sided}
use Rattle.nets.specs.Net.{ControlNet}
use Rattle.tables.specs.Tables.{cleared}
use Rattle.tables.proofs.Laws.{cleared_over}
use Rattle.lists.proofs.Parts.{drop_later}
use Rattle.verdict.specs.Call.{Room, lengths_of, Call, quadrilaterals, final_faces}
use Rattle.verdict.specs.Verdict.{accepted, refused, call_verdict, net_verdict, verdict, work_after}
use Rattle.verdict.proofs.Accepted.{call_both, or_both, WithinLimits, within_if, accepted_limits}
use Rattle.limits.specs.Answer.{FinalFaces}
use Rattle.halfedges.specs.Tables.{MateTableOf}
use Rattle.sidetable.specs.Table.{ShapeRoom, ShapeBuilt}
use Rattle.sidetable.proofs.Table.{shaped_kept}
use Rattle.examination.specs.Examine.{CheckTables}
use Rattle.admission.specs.Answer.{checked_as, checked}
use Rattle.admission.specs.Admission.{RefusedCall, AdmittedCall, Admits}
use Rattle.std.specs.Prelude.{Result, Ok, Err}
use Rattle.std.specs.Result.{IsErrAnd}
use Rattle.reasons.specs.declared.Reason.{Reason}
use Rattle.reasons.specs.declared.Refusal.{Refusal}
use Rattle.reasons.specs.Reasons.{number, first_place}

-- n corners against the faces where refining begins
pub record Corners (s : List ℕ) (n : ℕ) : Type 0 where
  pub four : n ≤ 4 * quadrilaterals s n
  pub one : 0 < length s → n ≡ quadrilaterals s n

pub corners_of_lem : (s : List ℕ) (n : ℕ) → Sided s n → Corners s n
corners_of_lem [] n k = let e = k.fours refl in record { four = omega arith; one = λ p. let z : ⊥ = omega arith in absurd z }
corners_of_lem (c ∷ s) n k = record { four = omega arith; one = λ p. refl }

module _ (k : ℕ) (m : ControlNet) (tension : ℕ) (room : Room) (w : List ℕ) where
  abbrev call : Call
  call = record { rounds = k; net = m; tension = tension; room = room }

  -- refused by the limits
  pub refused_limits : (f : ℕ) → call_verdict call ≡ refused f 0 → RefusedCall call w f 0 w
  unfolding verdict
  refused_limits f e = record { refuses = rw e refl; work = rw e refl }

  -- past the limits
  module _ (past : call_verdict call ≡ accepted) where
    within : WithinLimits k m.sides (lengths_of m room)
    within = within_if k m.sides (lengths_of m room) (call_both call past).0

    corners : Corners m.sides (length m.faces)
    corners = corners_of_lem m.sides (length m.faces) within.sided

    once : quadrilaterals m.sides (length m.faces) ≤ final_faces call
    once =
        let q : ℕ = quadrilaterals m.sides (length m.faces) in
        let p : 1 ≤ 4 ^ k = one-le-pow k 4 (lit≤ tt) in
        let g : q * 1 ≤ q * 4 ^ k = mul-le-mul_left q p in
        omega arith

    pub shape_room : room.work ≡ length w → ShapeRoom m.sides (length m.faces) w
    shape_room e =
        let r = within in
        let t = r.room_work in
        let f = r.faces in
        let g = once in
        let c = corners in
        record { few = omega (arith, c.four); sided = r.sided; room = λ p. omega (arith, c.one p) }

    -- w₁ is the work table with the shape, and u the one that the tests of the net leave
    module _ (w₁ : List ℕ) (built : ShapeBuilt m.sides (length m.faces) w w₁) (kept : length w₁ ≡ length w) where
      pub check_tables : room.work ≡ length w → CheckTables m.sides m.faces w₁
      check_tables e =
          let r = within in
          let t = r.room_work in
          let f = r.faces in
          let g = once in
          let c = corners in
          record { shaped = built.shaped; few = omega (arith, c.four); room = omega (arith, c.four) }

      module _ (g : ℕ) (f : FinalFaces k (quadrilaterals m.sides (length m.faces)) g) (u : List ℕ) (r : drop (4 * length m.faces) u ≡ drop (4 * length m.faces) w₁) where
        final : g ≡ final_faces call
        final = let r = within in f.final r.few r.faces

        pub room_work_lem : room.work ≡ length w → length u ≡ length w₁ → 16 * g ≤ length u
        room_work_lem e h = let r = within in let t = r.room_work in let z = final in omega arith

        -- past 16g nothing is built
        built_rest : Dec (0 < length m.sides) → drop (16 * g) w₁ ≡ drop (16 * g) w
        built_rest (yes p) = let o = once in let z = final in let c = corners in drop_later (7 * length m.faces) (16 * g) w₁ w (omega (arith, c.one p)) built.outside.rest
        built_rest (no p) = ap (drop (16 * g)) (built.none (omega arith))

        rest : drop (16 * g) u ≡ drop (16 * g) w
        rest =
            let o = once in
            let z = final in
            let c = corners in
            drop_later (4 * length m.faces) (16 * g) u w₁ (omega (arith, c.four)) r ∙ built_rest (dec_lt 0 (length m.sides))

        pub admitted_net : length u ≡ length w₁ → accepted ≡ net_verdict m → MateTableOf (shape_of m.sides) m.faces u → AdmittedCall call g u × (drop (16 * g) u ≡ drop (16 * g) w)
        unfolding verdict
        admitted_net h n t = (record { accepts = rw past (sym n); final = final; mated = t; shaped = shaped_kept m.sides (length m.faces) w₁ u h r built.shaped }, rest)

        pub refused_net : (number place : ℕ) (w' : List ℕ) → refused number place ≡ net_verdict m → w' ≡ cleared (16 * g) u → RefusedCall call w number place w'
        unfolding verdict
        refused_net number place w' n c = record {
          refuses = rw past (sym n);
          work = rw past (c ∙ cleared_over (16 * g) w u rest ∙ ap (λ (x : ℕ). cleared (16 * x) w) final);
        }

-- ---- an admitted call
module _ (c : Call) (g : ℕ) (w : List ℕ) (a : AdmittedCall c g w) where
  admitted_within : WithinLimits c.rounds c.net.sides (lengths_of c.net c.room)
  admitted_within = accepted_limits c a.accepts

  pub admitted_faces : g ≤ max_refined_faces
  admitted_faces = let l = admitted_within in let b = l.final in let e = a.final in omega arith

  pub admitted_room : 16 * g ≤ c.room.work
  admitted_room = let l = admitted_within in let b = l.room_work in let e = a.final in omega arith

  -- the work table, once cleared
  pub admitted_cleared : (w₀ w' : List ℕ) → drop (16 * g) w ≡ drop (16 * g) w₀ → w' ≡ cleared (16 * g) w → w' ≡ work_after c w₀
  unfolding verdict
  admitted_cleared w₀ w' r h =
      let e = a.accepts in
      let p : call_verdict c ≡ accepted = (or_both (call_verdict c) (net_verdict c.net) e).0 in
      rw p (h ∙ cleared_over (16 * g) w₀ w r ∙ ap (λ (x : ℕ). cleared (16 * x) w₀) a.final)

  pub checked_admitted : (w₀ w' : List ℕ) → drop (16 * g) w ≡ drop (16 * g) w₀ → w' ≡ cleared (16 * g) w → checked_as accepted w' ≡ checked c w₀
  unfolding checked
  checked_admitted w₀ w' r h = λ i. checked_as (sym a.accepts i) (admitted_cleared w₀ w' r h i)

pub checked_refused : (c : Call) (w w' : List ℕ) (number place : ℕ) → RefusedCall c w number place w' → checked_as (refused number place) w' ≡ checked c w
unfolding checked
checked_refused c w w' number place a = λ i. checked_as (sym a.refuses i) (a.work i)

-- a refusal that concerns no place, passed on
pub admits_refused : (c : Call) (w w' : List ℕ) (r : Result ℕ Refusal) (x : Reason) → IsErrAnd r (first_place x) → RefusedCall c w (number x) 0 w' → Admits c w r w'
admits_refused c w w' (Ok g) x e h = absurd e
admits_refused c w w' (Err y) x e h = rw (e.reason, e.place) h
