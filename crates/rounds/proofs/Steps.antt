-- The tables from round to round. Assumes nothing.
use mathlib.Core.Path.{◌≡◌, refl, sym, ap, ◌∙◌, subst}
use mathlib.Core.Bool.{Bool}
use mathlib.Core.List.{List}
use Prim.Native.Nat.{ℕ, zero, suc, ◌+◌, ◌*◌, ◌^◌, ◌≤◌, ◌<◌}
use native.Mathlib.Nat.{pow-suc, pow-le-pow_right, mul-le-mul_left, one-le-pow, mul_assoc, mul_comm}
use native.Mathlib.Omega.{arith}
use lib.IntN.{ℤ}
use lib.ListN.{length, take, drop, take-append-drop}
use lib.Seq.{length-take-le}
use lib.Dec.{lit≤}
use Rattle.lists.proofs.Parts.{drop_later}
use Rattle.curve.specs.Weights.{tension}
use Rattle.curve.proofs.Tension.{tame}
use Rattle.nets.specs.Net.{Net}
use Rattle.tables.specs.Tables.{filled, SameOutside}
use Rattle.tables.proofs.Written.{written_none, written_on, written_as}
use Rattle.tables.proofs.Laws.{length-filled, take-filled, filled_over, same-front, same_rest}
use Rattle.nets.proofs.Laws.{same-net}
use Rattle.topology.specs.Shape.{quads}
use Rattle.topology.specs.Manifold.{Manifold}
use Rattle.refinedfaces.specs.Refined.{refined_vertices, refined}
use Rattle.refinedfaces.proofs.Corners.{length-refined}
use Rattle.refinedfaces.proofs.Manifold.{vertices_after_ge}
use Rattle.scheme.specs.Step.{step, steps}
use Rattle.schemelaws.specs.Nets.{Refinable}
use Rattle.schemelaws.proofs.Steps.{step_faces, step_count, steps-count, refinable_steps, refinable_manifold}
use Rattle.schemelaws.proofs.Growth.{steps_input}
use Rattle.refinedfaces.specs.Families.{AfterRound}
use Rattle.halfedges.specs.Tables.{MateTable}
use Rattle.halfedges.proofs.Tables.{mates_cong}
use Rattle.ringsizes.specs.Classes.{RingSizes, Classes, Countable}
use Rattle.ringsizes.proofs.Classes.{classes_counted, classes_same, classes_refined}
use Rattle.refinedfaces.specs.Mates.{refined_mates}
use Rattle.roundmates.specs.Mates.{MatesIn, LaterIn}
use Rattle.origins.specs.Origins.{letter_of, origin_from}
use Rattle.origins.proofs.Named.{origin_kept, origin_new}
use Rattle.letters.specs.Letters.{new_letter, WrittenIf}
use Rattle.oneround.specs.Round.{Current, Refines}
use Rattle.nets.specs.Buffers.{Buffers, buffers, front}
use Rattle.rounds.specs.Rounds.{Prepared, After, LettersAfter}
use Rattle.oneround.proofs.Laws.{count-le, count_is, mates_ready, mates_later, mates_next, mates_past}

-- a list at the front of a table of its length is the whole
filled_self : {A : Type 0} (n : ℕ) (d : List A) → n ≤ length d → d ≡ filled (take n d) d
unfolding filled
filled_self n d h = rw (length-take-le n d h) (sym (take-append-drop n d))

next_size : (n i : ℕ) → n * 4 ^ (i + 1) ≡ 4 * (n * 4 ^ i)
next_size n i =
    let q : i + 1 ≡ suc i = omega arith in
    ap (λ (x : ℕ). n * 4 ^ x) q ∙ ap (λ (x : ℕ). n * x) (pow-suc 4 i) ∙ sym (mul_assoc n (4 ^ i) 4) ∙ mul_comm (n * 4 ^ i) 4

pub again : (n i c : ℕ) → c ≡ n * 4 ^ i → c * 4 ≡ n * 4 ^ (i + 1)
again n i c e = let g = next_size n i in omega arith

-- after the first round the net is one that a round made
steps_later : (t : ℕ) (m : Net) → Refinable m → (i : ℕ) → 0 < i → AfterRound (steps (tension t) i m).faces
unfolding steps
steps_later t m ok zero h = let z : ⊥ = omega arith in absurd z
steps_later t m ok (suc i) h =
    let old : Net = steps (tension t) i m in
    let r = refinable_steps (tension t) m ok i in
    record { vertices = length old.marks; before = old.faces; net = refinable_manifold old r; fours = r.fours; is = step_faces (tension t) old }

-- the tables with another work table
abbrev pub with_work : Buffers → List ℕ → Buffers
with_work B u = buffers B.vertices B.faces B.marks u

module _ (t k v n last : ℕ) (B : Buffers) (ok : Prepared t k v n last B) where
  abbrev m : Net
  m = front v n B

  abbrev points : List ℤ
  points = B.vertices

  abbrev faces : List ℕ
  faces = B.faces

  abbrev marks : List ℕ
  marks = B.marks

  abbrev w : List ℕ
  w = B.work

  once : n ≤ n * 4 ^ k
  once = let p : 1 ≤ 4 ^ k = one-le-pow k 4 (lit≤ tt) in let g : n * 1 ≤ n * 4 ^ k = mul-le-mul_left n p in omega arith

  classes_room : 8 * last + v ≤ length w
  classes_room = let o = once in let z = ok.size in let r = ok.room_work in let q = ok.vertices in omega arith

  pub sized : (i : ℕ) → i < k → 4 * (n * 4 ^ i) ≤ n * 4 ^ k
  sized i h =
      let p : 4 ^ (i + 1) ≤ 4 ^ k = pow-le-pow_right {n = 4} (omega arith) (omega arith) in
      let g : n * 4 ^ (i + 1) ≤ n * 4 ^ k = mul-le-mul_left n p in
      let s = next_size n i in
      omega arith

  pub after_none : After t 0 v n v B B
  unfolding steps
  after_none =
      let g = once in
      let a = ok.room_points in
      let b = ok.room_faces in
      let c = ok.room_marks in
      let d = ok.vertices in
      record {
        count = sym (length-take-le v marks (omega arith));
        corners = sym (length-take-le n faces (omega arith) ∙ omega arith);
        fewer = omega arith;
        new_points = filled_self (3 * v) points (omega arith);
        new_faces = filled_self n faces (omega arith);
        new_marks = filled_self v marks (omega arith);
        kept = refl;
        rest = refl;
      }

  vertices_here : length m.marks ≡ v
  vertices_here = let o = once in let q = ok.vertices in let r = ok.room_marks in length-take-le v marks (omega arith)

  manifold_here : Manifold quads v (take n faces)
  manifold_here = subst (λ (j : ℕ). Manifold quads j (take n faces)) vertices_here (refinable_manifold m ok.refinable)

  pub classes_none : RingSizes v (8 * last) (take n faces) w → Classes v (8 * last) v (steps (tension t) 0 m).faces w
  unfolding steps
  classes_none r = classes_counted v (8 * last) (take n faces) w manifold_here classes_room r

  pub letters_none : (asked : Bool) (s : List ℕ) → LettersAfter asked t 0 v v m s s
  letters_none asked s o = record { all = λ _. written_none v (λ (i : ℕ). letter_of (origin_from (tension t) o m 0 i)) s; none = λ _. refl }

  pub mated_none : MateTable (steps (tension t) 0 m).faces w
  unfolding steps
  mated_none = ok.mated

  module _ (i r : ℕ) (B₁ : Buffers) (a : After t i v n r B B₁) where
    abbrev points₁ : List ℤ
    points₁ = B₁.vertices

    abbrev faces₁ : List ℕ
    faces₁ = B₁.faces

    abbrev marks₁ : List ℕ
    marks₁ = B₁.marks

    abbrev w₁ : List ℕ
    w₁ = B₁.work

    refinable : Refinable (steps (tension t) i m)
    refinable = refinable_steps (tension t) m ok.refinable i

    front_is : front r (n * 4 ^ i) B₁ ≡ steps (tension t) i m
    front_is =
        let q = refinable.threes in
        let c = a.count in
        same-net
        (ap (take (3 * r)) a.new_points ∙ take-filled _ points (3 * r) (omega arith))
        (ap (take (n * 4 ^ i)) a.new_faces ∙ take-filled _ faces (n * 4 ^ i) a.corners)
        (ap (take r) a.new_marks ∙ take-filled _ marks r a.count)

    pub later_net : 0 < i → AfterRound (take (n * 4 ^ i) faces₁)
    later_net h = subst (λ (x : Net). AfterRound x.faces) (sym front_is) (steps_later t m ok.refinable i h)

    module _ (h : i ≤ k) where
      reached : n * 4 ^ i ≤ n * 4 ^ k
      reached = let p : 4 ^ i ≤ 4 ^ k = pow-le-pow_right {n = 4} (omega arith) h in mul-le-mul_left n p

      pub kept_points : length points₁ ≡ length points
      kept_points =
          let s = reached in
          let q = refinable.threes in
          let c = a.count in
          let l = a.fewer in
          let b = ok.room_points in
          ap length a.new_points ∙ length-filled _ points (omega arith)

      pub kept_faces : length faces₁ ≡ length faces
      kept_faces =
          let s = reached in
          let d = a.corners in
          let b = ok.room_faces in
          ap length a.new_faces ∙ length-filled _ faces (omega arith)

      pub kept_marks : length marks₁ ≡ length marks
      kept_marks =
          let s = reached in
          let c = a.count in
          let l = a.fewer in
          let b = ok.room_marks in
          ap length a.new_marks ∙ length-filled _ marks (omega arith)

    module _ (g : MateTable (steps (tension t) i m).faces w₁) (p : Classes r (8 * last) v (steps (tension t) i m).faces w₁) (h : i < k) where
      pub current : Current t r (n * 4 ^ i) (8 * last) v B₁
      current =
          let s = sized i h in
          let e = ok.final in
          let rp = ok.room_points in
          let rf = ok.room_faces in
          let rm = ok.room_marks in
          let rw' = ok.room_work in
          let q = ok.few in
          let z = ok.size in
          let lp = kept_points (omega arith) in
          let lf = kept_faces (omega arith) in
          let lm = kept_marks (omega arith) in
          let lw = a.kept in
          record {
            low = ok.low;
            refinable = rw front_is refinable;
            within = rw (ap (λ (x : Net). x.vertices) front_is) (steps_input (tension t) (tame t ok.low) m ok.refinable ok.within i (omega arith));
            small = omega arith;
            vertices = a.fewer;
            room_points = omega arith;
            room_faces = omega arith;
            room_marks = omega arith;
            room_work = omega arith;
            mated = rw (ap (λ (x : Net). x.faces) front_is) g;
            behind = omega arith;
            classes = rw (ap (λ (x : Net). x.faces) front_is) p;
          }

      module _ (r₂ : ℕ) (B₂ : Buffers) (e : Refines t r (n * 4 ^ i) r₂ B₁ B₂) (z : length B₂.work ≡ length B₁.work) where
        abbrev w₂ : List ℕ
        w₂ = B₂.work

        next : step (tension t) (front r (n * 4 ^ i) B₁) ≡ steps (tension t) (i + 1) m
        unfolding steps
        next = let q : i + 1 ≡ suc i = omega arith in rw (front_is, q) refl

        -- whatever stands in the work table where a round leaves it open
        past : (w₃ : List ℕ) → length w₃ ≡ length w₂ → drop (8 * (n * 4 ^ i)) w₃ ≡ drop (8 * (n * 4 ^ i)) w₂ → After t (i + 1) v n r₂ B (with_work B₂ w₃)
        past w₃ y d =
            let q = refinable.threes in
            let u : length (steps (tension t) (i + 1) m).vertices ≡ 3 * length (steps (tension t) (i + 1) m).marks = (refinable_steps (tension t) m ok.refinable (i + 1)).threes in
            let g : n * 4 ^ (i + 1) ≡ 4 * (n * 4 ^ i) = next_size n i in
            let nx = next in
            let c₁ = a.count in
            let c₂ : r₂ ≡ length (steps (tension t) (i + 1) m).marks = e.count ∙ ap (λ (x : Net). length x.marks) nx in
            let b = count-le t r (n * 4 ^ i) (8 * last) v B₁ current in
            let b₂ = e.count ∙ sym (count_is t r (n * 4 ^ i) (8 * last) v B₁ current) in
            let d₁ = a.corners in
            let d₂ : length (steps (tension t) (i + 1) m).faces ≡ 4 * length (steps (tension t) i m).faces =
            ap (λ (x : Net). length x.faces) (sym nx) ∙ ap length (step_faces (tension t) _) ∙ length-refined quads _ _ ∙ ap (λ (x : Net). 4 * length x.faces) front_is in
            record {
              count = c₂;
              corners = omega arith;
              fewer = omega arith;
              new_points = e.new_points ∙ ap (λ (x : Net). filled x.vertices points₁) nx ∙ ap (filled (steps (tension t) (i + 1) m).vertices) a.new_points ∙ filled_over _ _ points (omega arith);
              new_faces = e.new_faces ∙ ap (λ (x : Net). filled x.faces faces₁) nx ∙ ap (filled (steps (tension t) (i + 1) m).faces) a.new_faces ∙ filled_over _ _ faces (omega arith);
              new_marks = e.new_marks ∙ ap (λ (x : Net). filled x.marks marks₁) nx ∙ ap (filled (steps (tension t) (i + 1) m).marks) a.new_marks ∙ filled_over _ _ marks (omega arith);
              kept = y ∙ z ∙ a.kept;
              rest = drop_later (8 * (n * 4 ^ i)) (3 * (n * 4 ^ (i + 1))) _ _ (omega arith) (d ∙ e.rest) ∙ drop_later (3 * (n * 4 ^ i)) (3 * (n * 4 ^ (i + 1))) _ _ (omega arith) a.rest;
            }

        pub after_next : After t (i + 1) v n r₂ B B₂
        after_next = past w₂ refl refl

        -- one round more of letters: old vertices keep theirs
        pub letters_next : (asked : Bool) (s s₁ s₂ : List ℕ) → LettersAfter asked t i v r m s s₁ → WrittenIf asked r r₂ (new_letter (take (n * 4 ^ i) faces₁) (take r marks₁)) s₁ s₂ → LettersAfter asked t (i + 1) v r₂ m s s₂
        letters_next asked s s₁ s₂ x y o =
            let old : Net = steps (tension t) i m in
            let f : ℕ → ℕ = λ j. letter_of (origin_from (tension t) o m i j) in
            let f₂ : ℕ → ℕ = λ j. letter_of (origin_from (tension t) o m (i + 1) j) in
            let q : i + 1 ≡ suc i = omega arith in
            let y₂ : WrittenIf asked r r₂ (new_letter old.faces old.marks) s₁ s₂ = subst (λ (b : Net). WrittenIf asked r r₂ (new_letter b.faces b.marks) s₁ s₂) front_is y in
            let c : refined_vertices quads (length old.marks) old.faces ≡ r₂ = sym (step_count (tension t) old) ∙ ap (λ (b : Net). length (step (tension t) b).marks) (sym front_is) ∙ sym e.count in
            let d = a.count in
            let b : v ≤ r = omega (arith, vertices_here, steps-count (tension t) m i, vertices_after_ge (length m.marks) m.faces i) in
            record {
              all = λ u. written_on v r r₂ f₂ s s₁ s₂ b (omega arith)
                  (written_as v r f f₂ s s₁ (λ j _ l. ap letter_of (sym (origin_kept (tension t) o m i j (omega arith)) ∙ ap (λ (h : ℕ). origin_from (tension t) o m h j) (sym q))) ((x o).all u))
                  (written_as r r₂ (new_letter old.faces old.marks) f₂ s₁ s₂ (λ j l _. ap letter_of (sym (origin_new (tension t) o m i j (omega arith)) ∙ ap (λ (h : ℕ). origin_from (tension t) o m h j) (sym q))) (y₂.all u));
              none = λ u. y₂.none u ∙ (x o).none u;
            }

        pub ready_mates : MatesIn (n * 4 ^ i) w₂
        ready_mates = mates_ready t r (n * 4 ^ i) (8 * last) v B₁ current w₂ z e.mated

        pub later_mates : 0 < i → LaterIn (n * 4 ^ i) w₂
        later_mates q = mates_later t r (n * 4 ^ i) (8 * last) v B₁ current w₂ z e.mated (later_net q)

        module _ (w₃ : List ℕ) (y : length w₃ ≡ length w₂) (d : w₃ ≡ filled (refined_mates quads (take (n * 4 ^ i) w₂)) w₂) where
          pub after_mates : After t (i + 1) v n r₂ B (with_work B₂ w₃)
          after_mates = past w₃ y (mates_past t r (n * 4 ^ i) (8 * last) v B₁ current w₂ z e.mated w₃ d)

          pub mated_next : MateTable (steps (tension t) (i + 1) m).faces w₃
          mated_next = rw (ap (λ (x : Net). x.faces) (sym next)) (mates_next t r (n * 4 ^ i) (8 * last) v B₁ current w₂ z e.mated w₃ d)

          -- the old vertices keep their classes, and the new ones are ordinary
          pub classes_next : Classes r₂ (8 * last) v (steps (tension t) (i + 1) m).faces w₃
          classes_next =
              let old : Net = steps (tension t) i m in
              let nx : step (tension t) old ≡ steps (tension t) (i + 1) m = ap (step (tension t)) (sym front_is) ∙ next in
              let x : Classes (length old.marks) (8 * last) v old.faces w₁ = subst (λ (j : ℕ). Classes j (8 * last) v old.faces w₁) a.count p in
              let f : refined quads (length old.marks) old.faces ≡ (steps (tension t) (i + 1) m).faces = sym (step_faces (tension t) old) ∙ ap (λ (y : Net). y.faces) nx in
              let c : refined_vertices quads (length old.marks) old.faces ≡ r₂ = sym (step_count (tension t) old) ∙ ap (λ (y : Net). length y.marks) nx ∙ sym (e.count ∙ ap (λ (y : Net). length y.marks) next) in
              let s = sized i h in
              let b = ok.size in
              let k = x.room in
              let same = same_rest (8 * (n * 4 ^ i)) w₁ w₃ (mates_past t r (n * 4 ^ i) (8 * last) v B₁ current w₂ z e.mated w₃ d ∙ e.rest) in
              subst (λ (j : ℕ). Classes j (8 * last) v (steps (tension t) (i + 1) m).faces w₃) c
              (subst (λ (l : List ℕ). Classes (refined_vertices quads (length old.marks) old.faces) (8 * last) v l w₃) f
              (classes_same _ _ _ _ w₁ w₃ (omega arith) (λ q u. same (8 * last + q) (omega arith)) (classes_refined _ _ _ _ w₁ (refinable_manifold old refinable) x)))

-- ---- the classes, made before the first round
module _ (t k v n last : ℕ) (B : Buffers) (ok : Prepared t k v n last B) where
  pub corners_room : n ≤ length B.faces
  corners_room = let o = once t k v n last B ok in let f = ok.room_faces in omega arith

  pub corners_length : length (take n B.faces) ≡ n
  corners_length = length-take-le n B.faces corners_room

  pub countable : 0 < k → Countable v (8 * last) (take n B.faces) B.work
  unfolding steps
  countable h =
      let o = once t k v n last B ok in
      let s = sized t k v n last B ok 0 h in
      let g = ok.room_marks in
      let w = ok.room_work in
      let e = ok.final in
      let z = ok.size in
      let q = ok.vertices in
      let l = corners_length in
      record {
        net = manifold_here t k v n last B ok;
        table = record { sides = record { fours = ok.refinable.fours; few = omega arith }; room = omega arith; mated = ok.mated };
        behind = omega arith;
        room = classes_room t k v n last B ok;
      }

  -- the tables with the classes in them
  module _ (u : List ℕ) (long : length u ≡ length B.work) (s : SameOutside (8 * last) (8 * last + v) B.work u) where
    pub prepared_classes : Prepared t k v n last (with_work B u)
    prepared_classes =
        let o = once t k v n last B ok in
        let z = ok.size in
        let w = ok.room_work in
        let l = corners_length in
        record {
          low = ok.low;
          refinable = ok.refinable;
          within = ok.within;
          few = ok.few;
          vertices = ok.vertices;
          size = ok.size;
          final = ok.final;
          room_points = ok.room_points;
          room_faces = ok.room_faces;
          room_marks = ok.room_marks;
          room_work = omega arith;
          mated = mates_cong (take n B.faces) B.work u (λ i b. same-front (8 * last) B.work u s.front i (omega arith)) ok.mated;
        }

    pub after_classes : (i r : ℕ) (B' : Buffers) → i ≡ k → After t i v n r (with_work B u) B' → After t k v n r B B'
    after_classes i r B' e b =
        let a : After t k v n r (with_work B u) B' = subst (λ (j : ℕ). After t j v n r (with_work B u) B') e b in
        let o = once t k v n last B ok in
        let z = ok.size in
        let q = ok.vertices in
        record {
          count = a.count;
          corners = a.corners;
          fewer = a.fewer;
          new_points = a.new_points;
          new_faces = a.new_faces;
          new_marks = a.new_marks;
          kept = a.kept ∙ long;
          rest = a.rest ∙ drop_later (8 * last + v) (3 * (n * 4 ^ k)) _ _ (omega arith) s.rest;
        }
