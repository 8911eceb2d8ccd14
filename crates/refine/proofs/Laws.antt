-- How the parts of the refining call fit together. Assumes nothing.
use mathlib.Core.Path.{◌≡◌, refl, sym, ap, ap₂, ◌∙◌, subst}
use mathlib.Core.Bool.{true}
use mathlib.Core.List.{List, [], ◌∷◌}
use Prim.Native.Nat.{ℕ, ◌*◌, ◌/◌, ◌%◌, ◌^◌, ◌≤◌}
use native.Mathlib.Nat.{one-le-pow, mul-le-mul_left, mul_assoc}
use native.Mathlib.Omega.{arith}
use lib.Dec.{lit≤}
use lib.IntN.{ℤ}
use lib.ListN.{length, take}
use Rattle.bounds.specs.Bounds.{max_faces, max_refined_faces, max_coordinate, max_corners}
use Rattle.lists.proofs.Parts.{drop_later}
use Rattle.curve.specs.Weights.{tension}
use Rattle.integers.specs.Within.{Within}
use Rattle.nets.specs.Net.{Net, ControlNet}
use Rattle.tables.specs.Tables.{filled, cleared}
use Rattle.tables.proofs.Laws.{length-filled, take-filled, filled_over, cleared_over}
use Rattle.nets.proofs.Laws.{same-net}
use Rattle.polygons.specs.Polygons.{Sided}
use Rattle.verdict.specs.Call.{lengths_of, Call, quadrilaterals}
use Rattle.verdict.proofs.Accepted.{by_sides, WithinLimits, accepted_limits, accepted_tension, accepted_coordinate}
use Rattle.scheme.specs.Step.{steps}
use Rattle.schemelaws.specs.Nets.{Refinable}
use Rattle.schemelaws.proofs.Steps.{refinable_steps}
use Rattle.admission.specs.Admission.{AdmittedCall}
use Rattle.admission.proofs.Laws.{admitted_faces, admitted_room}
use Rattle.origins.specs.Origins as origins
use Rattle.letters.specs.Letters.{start_letter, WrittenIf}
use Rattle.outcome.specs.Outcome.{Request, call_of, lettered}
use Rattle.nets.specs.Buffers.{Buffers, buffers, front, Letters}
use Rattle.splitting.specs.Splitting.{start_net}
use Rattle.splitting.specs.WellFormed.{WellFormed}
use Rattle.splitting.proofs.Split.{start_grows}
use Rattle.splitting.proofs.Growth.{start_within}
use Rattle.splitting.proofs.Room.{start_vertices_le}
use Rattle.outcome.proofs.Accepted.{accepted_well_formed, accepted_refinable}
use Rattle.outcome.proofs.Counts.{zero-steps, more_vertices, corners_grown, start_four_lem, start_corners}
use Rattle.loading.specs.Loading.{Loadable, Loaded}
use Rattle.rounds.specs.Rounds.{Prepared, After, LettersFit, LettersAfter}
use Rattle.refine.proofs.Naming.{lettered_all}

-- the tables o' after k rounds at tension t on the net m, from the tables o, and the final number of vertices; `last` is the final number of faces
pub record Ran (t k : ℕ) (m : ControlNet) (o o' : Buffers) (last r : ℕ) : Type 0 where
  pub count : r ≡ length (steps (tension t) k (start_net m)).marks
  pub vertices : o'.vertices ≡ filled (steps (tension t) k (start_net m)).vertices o.vertices
  pub faces : o'.faces ≡ filled (steps (tension t) k (start_net m)).faces o.faces
  pub marks : o'.marks ≡ filled (steps (tension t) k (start_net m)).marks o.marks
  pub work : o'.work ≡ cleared (16 * last) o.work

-- corners are four to a face
pub by_faces : (n p : ℕ) → n % 4 ≡ 0 → n * p ≡ 4 * (n / 4 * p)
by_faces n p e = let q : n ≡ 4 * (n / 4) = omega arith in ap (λ (x : ℕ). x * p) q ∙ mul_assoc 4 (n / 4) p

corners_le : (s : List ℕ) (n : ℕ) → Sided s n → n ≤ 4 * quadrilaterals s n
corners_le [] n k = let f = k.fours refl in omega arith
corners_le (c ∷ s) n k = omega arith

-- ---- an admitted request
module _ (a : Request) (last : ℕ) (ok : AdmittedCall (call_of a) last a.buffers.work) where
  abbrev asked : Call
  asked = call_of a

  abbrev k : ℕ
  k = a.rounds

  abbrev t : ℕ
  t = a.tension

  abbrev control : ControlNet
  control = a.net

  abbrev o : Buffers
  o = a.buffers

  abbrev letters : Letters
  letters = a.letters

  abbrev m : Net
  m = start_net control

  limits : WithinLimits k control.sides (lengths_of control asked.room)
  limits = accepted_limits asked ok.accepts

  well_formed : WellFormed control
  well_formed = accepted_well_formed asked ok.accepts

  refinable : Refinable m
  refinable = accepted_refinable asked ok.accepts

  size : length m.faces * 4 ^ k ≡ 4 * last
  size = let e = ok.final in start_corners asked ok.accepts (4 ^ k) ∙ ap (λ (x : ℕ). 4 * x) (sym e)

  pub corners_steps : length (steps (tension t) k m).faces ≡ 4 * last
  corners_steps = corners_grown t m k ∙ size

  once : length m.faces ≤ length m.faces * 4 ^ k
  once = let p : 1 ≤ 4 ^ k = one-le-pow k 4 (lit≤ tt) in let g : length m.faces * 1 ≤ length m.faces * 4 ^ k = mul-le-mul_left (length m.faces) p in omega arith

  vertices_le : length m.marks ≤ length m.faces
  vertices_le = start_vertices_le control well_formed

  start_fewer : length m.marks ≤ length (steps (tension t) k m).marks
  start_fewer = omega (arith, more_vertices t m 0 k (omega arith), zero-steps t m)

  within : Within max_coordinate control.vertices
  within = record { at = accepted_coordinate asked ok.accepts }

  pub room_work_lem : 16 * last ≤ length o.work
  room_work_lem = admitted_room asked last o.work ok

  pub last_le : last ≤ max_refined_faces
  last_le = admitted_faces asked last o.work ok

  -- the faces that count, before the rounds
  pub faces_few : quadrilaterals control.sides (length control.faces) ≤ max_faces
  faces_few = limits.faces

  pub loadable : Loadable control o
  loadable =
      let w = limits in
      let f = faces_few in
      let s = size in
      let g = once in
      let e = ok.final in
      let b = w.room_vertices in
      let c = w.room_faces in
      let d = w.room_marks in
      let h = w.room_work in
      let l = corners_le control.sides (length control.faces) w.sided in
      record {
        well_formed = well_formed;
        within = within;
        few = omega arith;
        few_split = λ p. let q = by_sides control.sides (length control.faces) (λ z. let y : ⊥ = omega arith in absurd y) in omega arith;
        room_vertices = omega arith;
        room_faces = omega arith;
        room_marks = omega arith;
        room_work = λ p. omega arith;
        mated = ok.mated;
        shaped = ok.shaped;
      }

  -- corners where refining begins
  pub corners_start : 4 * quadrilaterals control.sides (length control.faces) ≡ length m.faces
  corners_start = sym (start_four_lem control limits.sided)

  pub corners_limit : length control.faces ≤ max_corners
  corners_limit = loadable.few

  pub corners_room : length control.faces ≤ length o.work
  corners_room =
      let l = corners_le control.sides (length control.faces) limits.sided in
      let s = size in
      let g = once in
      omega (arith, room_work_lem, start_four_lem control limits.sided)

  -- the letter table has room for all vertices, where letters are asked for
  pub letters_fit : (n : ℕ) → n ≡ length m.faces → LettersFit letters.asked (n * 4 ^ k) letters.table
  letters_fit n e h =
      let r = limits.room_letters h in
      let s = size in
      let f = ok.final in
      let g : n * 4 ^ k ≡ length m.faces * 4 ^ k = ap (λ (j : ℕ). j * 4 ^ k) e in
      omega arith

  pub start_fits : letters.asked ≡ true → (length control.marks ≤ length m.marks) × (length m.marks ≤ length letters.table)
  start_fits h = (start_grows control, omega (arith, letters_fit _ refl h, once, vertices_le))

  module _ (B : Buffers) (r n : ℕ) (x : Loaded control o B r) (long : length B.work ≡ length o.work) (corners-are : n ≡ length m.faces) where
    front_is : front r n B ≡ m
    front_is =
        let t₃ = refinable.threes in
        let c = x.count in
        let d = corners-are in
        same-net (ap (take (3 * r)) x.vertices ∙ take-filled m.vertices o.vertices (3 * r) (omega arith))
        (ap (take n) x.faces ∙ take-filled m.faces o.faces n d)
        (ap (take r) x.marks ∙ take-filled m.marks o.marks r c)

    pub prepared : Prepared t k r n last B
    prepared =
        let w = limits in
        let b = w.room_vertices in
        let c = w.room_faces in
        let d = w.room_marks in
        let f = w.room_work in
        let s = size in
        let g = once in
        let z = ok.final in
        let q = last_le in
        let u = vertices_le in
        let y = x.count in
        let i = corners-are in
        let h = refinable.threes in
        let grown : n * 4 ^ k ≡ length m.faces * 4 ^ k = ap (λ (j : ℕ). j * 4 ^ k) i in
        let lv : length B.vertices ≡ length o.vertices = ap length x.vertices ∙ length-filled _ _ (omega arith) in
        let lf : length B.faces ≡ length o.faces = ap length x.faces ∙ length-filled _ _ (omega arith) in
        let lm : length B.marks ≡ length o.marks = ap length x.marks ∙ length-filled _ _ (omega arith) in
        record {
          low = accepted_tension asked ok.accepts;
          refinable = rw front_is refinable;
          within = rw (ap (λ (j : Net). j.vertices) front_is) (start_within control well_formed max_coordinate within);
          few = w.few;
          vertices = omega arith;
          size = omega arith;
          final = omega arith;
          room_points = omega arith;
          room_faces = omega arith;
          room_marks = omega arith;
          room_work = omega arith;
          mated = rw (ap (λ (j : Net). j.faces) front_is) x.mated;
        }

    module _ (v : ℕ) (u : Buffers) (b : After t k r n v B u) where
      -- the letters of the vertices where refining begins, then those of the rounds
      pub letters_ran : (s₁ s₂ : List ℕ) → length s₂ ≡ length letters.table → WrittenIf letters.asked 0 r (start_letter (length control.marks)) letters.table s₁
          → LettersAfter letters.asked t k r v (front r n B) s₁ s₂ → s₂ ≡ lettered (origins.letters (tension t) control k) letters
      letters_ran s₁ s₂ e y z =
          let c : v ≡ length (steps (tension t) k m).marks = b.count ∙ ap (λ (y : Net). length (steps (tension t) k y).marks) front_is in
          let f = b.fewer in
          lettered_all t k control r v x.count c letters.table s₁ s₂ e letters.asked (λ a. omega (arith, letters_fit n corners-are a)) y (subst (λ (q : Net). LettersAfter letters.asked t k r v q s₁ s₂) front_is z)

      pub ran : (w : List ℕ) → w ≡ cleared (16 * last) u.work → Ran t k control o (buffers u.vertices u.faces u.marks w) last v
      ran w z =
          let q = refinable.threes in
          let j = (refinable_steps (tension t) m refinable k).threes in
          let i = start_fewer in
          let c = corners_steps in
          let g = once in
          let s = size in
          let d = corners-are in
          let grown : n * 4 ^ k ≡ length m.faces * 4 ^ k = ap (λ (j : ℕ). j * 4 ^ k) d in
          record {
            count = b.count ∙ ap (λ (y : Net). length (steps (tension t) k y).marks) front_is;
            vertices = b.new_points ∙ ap₂ (λ (y : Net) (l : List ℤ). filled (steps (tension t) k y).vertices l) front_is x.vertices ∙ filled_over _ _ o.vertices (omega arith);
            faces = b.new_faces ∙ ap₂ (λ (y : Net) (l : List ℕ). filled (steps (tension t) k y).faces l) front_is x.faces ∙ filled_over _ _ o.faces (omega arith);
            marks = b.new_marks ∙ ap₂ (λ (y : Net) (l : List ℕ). filled (steps (tension t) k y).marks l) front_is x.marks ∙ filled_over _ _ o.marks i;
            work = z ∙ cleared_over (16 * last) o.work u.work
                (drop_later (3 * (n * 4 ^ k)) (16 * last) u.work B.work (omega arith) b.rest ∙ drop_later (4 * length m.faces) (16 * last) B.work o.work (omega arith) x.rest);
          }
