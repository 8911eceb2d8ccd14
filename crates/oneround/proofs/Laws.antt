-- How the parts of a round fit together. Assumes nothing.
use mathlib.Core.Path.{◌≡◌, sym, ap, ◌∙◌, subst}
use mathlib.Core.Bool.{Bool}
use mathlib.Core.List.{List}
use Prim.Native.Nat.{ℕ, ◌+◌, ◌-◌, ◌*◌, ◌/◌, ◌≤◌}
use native.Mathlib.Omega.{arith}
use borrow.Author.Tests.{lt-ltb, le-ltb, ltb-true, ltb-false}
use borrow.Rule.Slice.PartMut.{put_mid}
use lib.IntN.{ℤ}
use lib.ListN.{length, get_or, take, drop, length-drop}
use lib.Seq.{take_all, length-take-le, get_or-take, get_or-drop, ext_get_or}
use Rattle.lists.proofs.Parts.{drop_later}
use Rattle.curve.specs.Weights.{tension}
use Rattle.nets.specs.Net.{Net, front_net}
use Rattle.tables.specs.Tables.{filled}
use Rattle.nets.proofs.Laws.{same-net}
use Rattle.topology.specs.Shape.{quads}
use Rattle.topology.specs.HalfEdge.{mate, edge_count}
use Rattle.topology.specs.Manifold.{Oriented}
use Rattle.refinedfaces.specs.Refined.{refined_vertices, refined, refined_marks}
use Rattle.refinedfaces.specs.Mates.{refined_mates}
use Rattle.refinedfaces.specs.Families.{AfterRound, Facing}
use Rattle.refinedfaces.proofs.Families.{later_facing}
use Rattle.scheme.specs.Step.{step}
use Rattle.halfedges.specs.Tables.{Quadrilaterals, MateTable}
use Rattle.halfedges.proofs.Tables.{mates_cong}
use Rattle.schemelaws.proofs.Steps.{refinable_manifold, step_faces, step_marks, step_count}
use Rattle.roundfaces.specs.Faces.{extended, FacesIn}
use Rattle.roundfaces.proofs.Round.{vertices_refined, marks_refined, marks_cong}
use Rattle.roundmates.specs.Mates.{MatesIn, LaterIn}
use Rattle.roundmates.proofs.Round.{mates_in, mated_refined, mates_rest}
use Rattle.ringsizes.specs.Classes.{Classes}
use Rattle.edgeentries.specs.Entry.{entry_of, edge_of}
use Rattle.facerules.specs.Faces.{face_coordinates, FaceTable}
use Rattle.familyfaces.specs.Family.{FamilyTable}
use Rattle.letters.specs.Letters.{new_letter, Nameable, WrittenIf}
use Rattle.edgetable.specs.EdgeTable.{Round, Edges}
use Rattle.edgetable.proofs.Faces.{face_table_lem, number_is, inner_is}
use Rattle.passes.proofs.FamilyTable.{family_table}
use Rattle.oneround.proofs.Points.{face_room, points_made}
use Rattle.oneround.specs.Round.{Current, Refines}
use Rattle.nets.specs.Buffers.{Buffers, buffers, front}

-- the rest of a list, by places
drop-same : (k : ℕ) (u w : List ℕ) → length u ≡ length w → ((i : ℕ) → k ≤ i → get_or u i 0 ≡ get_or w i 0) → drop k u ≡ drop k w
drop-same k u w e h = ext_get_or 0 (drop k u) (drop k w) (length-drop k u ∙ ap (λ (x : ℕ). x - k) e ∙ sym (length-drop k w)) (λ i b. get_or-drop k u i 0 ∙ h (k + i) (omega arith) ∙ sym (get_or-drop k w i 0))

module _ (t v n at initial : ℕ) (B : Buffers) (c : Current t v n at initial B) where
  abbrev points : List ℤ
  points = B.vertices

  abbrev faces : List ℕ
  faces = B.faces

  abbrev marks : List ℕ
  marks = B.marks

  abbrev w : List ℕ
  w = B.work

  -- the net before the round, its corners and its marks
  abbrev old : Net
  old = front v n B

  abbrev l : List ℕ
  l = take n faces

  abbrev mk : List ℕ
  mk = take v marks

  pub corners : length l ≡ n
  corners = let r = c.room_faces in length-take-le n faces (omega arith)

  pub marked : length mk ≡ v
  marked = let r = c.room_marks in let q = c.vertices in length-take-le v marks (omega arith)

  oriented : Oriented quads v l
  oriented = subst (λ (k : ℕ). Oriented quads k l) marked (refinable_manifold old c.refinable).oriented

  sides : Quadrilaterals (length l)
  sides = let e = corners in let s = c.small in record { fours = c.refinable.fours; few = omega arith }

  -- the new number of vertices
  pub count-le : v + edge_count quads l + n / 4 ≤ 4 * n
  unfolding quads
  count-le = let e = corners in let q = c.vertices in let k = vertices_refined v l (omega arith) in omega arith

  pub made-le : (edge : ℕ) → edge ≡ edge_count quads l → v + edge + n / 4 ≤ 4 * n
  made-le edge e = subst (λ (j : ℕ). v + j + n / 4 ≤ 4 * n) (sym e) count-le

  pub count_is : v + edge_count quads l + n / 4 ≡ length (step (tension t) old).marks
  unfolding quads
  count_is =
      let e = corners in
      sym (step_count (tension t) old ∙ ap (λ (k : ℕ). refined_vertices quads k l) marked ∙ ap (λ (k : ℕ). v + edge_count quads l + k / 4) e)

  faces_are : (step (tension t) old).faces ≡ refined quads v l
  faces_are = step_faces (tension t) old ∙ ap (λ (j : ℕ). refined quads j l) marked

  -- the mates for the next round
  module _ (w' : List ℕ) (k : length w' ≡ length w) (g : MateTable l w') where
    pub mates_ready : MatesIn n w'
    mates_ready =
        let e = corners in
        let r = c.room_work in
        subst (λ (j : ℕ). MatesIn j w') e (mates_in l w' sides (omega arith) g)

    pub mates_later : AfterRound l → LaterIn n w'
    mates_later a =
        let at : LaterIn (length l) w' = record { facing = λ q k. subst (Facing (length l) q) (sym (g.mates q k)) (later_facing l a q k) } in
        subst (λ (j : ℕ). LaterIn j w') corners at

    module _ (w'' : List ℕ) (h : w'' ≡ filled (refined_mates quads (take n w')) w') where
      pub mates_next : MateTable (step (tension t) old).faces w''
      mates_next =
          let e = corners in
          let r = c.room_work in
          let q : w'' ≡ filled (refined_mates quads (take (length l) w')) w' = h ∙ ap (λ (j : ℕ). filled (refined_mates quads (take j w')) w') (sym e) in
          rw (faces_are, q) (mated_refined v l w' oriented (omega arith) g)

      pub mates_past : drop (8 * n) w'' ≡ drop (8 * n) w'
      mates_past = let r = c.room_work in ap (drop (8 * n)) h ∙ drop_later (4 * n) (8 * n) _ _ (omega arith) (mates_rest n w' (omega arith))

  pub ready : Round t l mk points w at initial
  ready =
      let e = corners in
      let r = c.room_work in
      let p = c.room_points in
      let m = marked in
      let q = c.vertices in
      let b = c.behind in
      let d = vertices_refined (length mk) l (omega arith) in
      record {
        low = c.low;
        net = refinable_manifold old c.refinable;
        table = record { sides = sides; room = omega arith; mated = c.mated };
        classes = subst (λ (k : ℕ). Classes k at initial l w) (sym m) c.classes;
        vertices = omega arith;
        room = omega arith;
        behind = omega arith;
        bounded = rw m c.within;
      }

  -- the net that the new points are made from
  made : front_net (length mk) (length l) points l mk ≡ old
  made = same-net (ap (λ (k : ℕ). take (3 * k) points) marked) (take_all (length l) l (omega arith)) (take_all (length mk) mk (omega arith))

  -- ---- after the pass over the edges
  module _ (p₁ : List ℤ) (w₁ : List ℕ) (done : Edges t l mk points w p₁ w₁ (length l) (edge_count quads l)) where
    mated₁ : MateTable l w₁
    mated₁ = mates_cong l w w₁ (λ i h. done.mates i h) c.mated

    rest₁ : drop (8 * n) w₁ ≡ drop (8 * n) w
    rest₁ = let e = corners in drop-same (8 * n) w₁ w done.kept (λ i h. done.behind i (omega arith))

    -- the letters of the new vertices can be written to s
    pub nameable : (s : List ℕ) → 4 * n ≤ length s → Nameable l mk w₁ s
    nameable s f =
        let e = corners in
        let m = marked in
        let q = c.vertices in
        let r = c.room_work in
        let k = done.kept in
        let d = vertices_refined (length mk) l (omega arith) in
        record {
          net = ready.net.oriented;
          table = record { sides = sides; room = omega arith; mated = mated₁ };
          entries = omega arith;
          numbered = number_is t l mk points w at initial ready p₁ w₁ done;
          inner = λ g b h. ltb-true _ _ (inner_is t l mk points w at initial ready p₁ w₁ done g b ∙ lt-ltb (mate quads l g) (length l) h);
          boundary = λ g b h. ltb-false _ _ (inner_is t l mk points w at initial ready p₁ w₁ done g b ∙ le-ltb (mate quads l g) (length l) (omega arith));
          room = omega arith;
        }

    -- by the numbers of vertices before the round and after it
    pub letters_made : (edge : ℕ) → edge ≡ edge_count quads l → (asked : Bool) (s s' : List ℕ) → WrittenIf asked (length mk) (refined_vertices quads (length mk) l) (new_letter l mk) s s'
        → WrittenIf asked v (v + edge + n / 4) (new_letter l mk) s s'
    unfolding quads
    letters_made edge e asked s s' x =
        let r : refined_vertices quads (length mk) l ≡ v + edge + n / 4 = omega (arith, marked, corners) in
        subst (λ (j : ℕ). WrittenIf asked j (v + edge + n / 4) (new_letter l mk) s s') marked (subst (λ (j : ℕ). WrittenIf asked (length mk) j (new_letter l mk) s s') r x)

    pub face_ready : FaceTable t n w₁
    face_ready = subst (λ (k : ℕ). FaceTable t k w₁) corners (face_table_lem t l mk points w at initial ready p₁ w₁ done)

    pub family_ready : AfterRound l → FamilyTable n w₁
    family_ready a = subst (λ (k : ℕ). FamilyTable k w₁) corners (family_table t l mk points w at initial ready p₁ w₁ done a)

    pub net_ready : (count : ℕ) → count ≡ edge_count quads l → FacesIn n v count faces w₁
    net_ready count h =
        let e = corners in
        let r = c.room_work in
        let k = done.kept in
        record {
          sides = subst Quadrilaterals e sides;
          vertices = c.vertices;
          room = c.room_faces;
          behind = omega arith;
          numbered = λ g b. ap (λ (j : ℕ). edge_of (entry_of j w₁ g)) (sym e) ∙ number_is t l mk points w at initial ready p₁ w₁ done g (omega arith);
          counted = h;
        }

    -- with `edge` edges, the part from the first face point on
    module _ (edge : ℕ) (he : edge ≡ edge_count quads l) where
      abbrev first : ℕ
      first = 3 * (v + edge)

      pub part_start : first ≤ length p₁
      part_start = let k = done.points.kept in let p = c.room_points in let q = count-le in omega arith

      pub part_room : 3 * (n / 4) ≤ length (take (length p₁ - first) (drop first p₁))
      part_room =
          let e = corners in
          let m = marked in
          let r = face_room t l mk points w at initial ready p₁ w₁ done edge he in
          subst (λ (j : ℕ). 3 * (n / 4) ≤ length (take (length p₁ - 3 * (j + edge)) (drop (3 * (j + edge)) p₁))) m (subst (λ (j : ℕ). 3 * (j / 4) ≤ length (take (length p₁ - 3 * (length mk + edge)) (drop (3 * (length mk + edge)) p₁))) e r)

      part_made : (y : List ℤ) → y ≡ filled (face_coordinates (tension t) n w₁) (take (length p₁ - first) (drop first p₁)) → put_mid first (length p₁ - first) p₁ y ≡ filled (step (tension t) old).vertices points
      part_made y ey =
          let m = marked in
          let x : y ≡ filled (face_coordinates (tension t) (length l) w₁) (take (length p₁ - 3 * (length mk + edge)) (drop (3 * (length mk + edge)) p₁)) =
          ey
          ∙ ap (λ (j : ℕ). filled (face_coordinates (tension t) j w₁) (take (length p₁ - first) (drop first p₁))) (sym corners)
          ∙ ap (λ (j : ℕ). filled (face_coordinates (tension t) (length l) w₁) (take (length p₁ - 3 * (j + edge)) (drop (3 * (j + edge)) p₁))) (sym m) in
          ap (λ (j : ℕ). put_mid (3 * (j + edge)) (length p₁ - 3 * (j + edge)) p₁ y) (sym m)
          ∙ points_made t l mk points w at initial ready p₁ w₁ done edge he y x
          ∙ ap (λ (x : Net). filled (step (tension t) x).vertices points) made

      count : v + edge + n / 4 ≡ v + edge_count quads l + n / 4
      count = ap (λ (j : ℕ). v + j + n / 4) he

      same_marks : refined_marks quads v l mk ≡ refined_marks quads v l marks
      same_marks = marks_cong quads v l mk marks (λ p h. get_or-take v marks p 0 h)

      new_marks_lem : extended v (v + edge + n / 4) marks ≡ (step (tension t) old).marks
      unfolding quads
      new_marks_lem =
          ap (λ (j : ℕ). extended v j marks) (count ∙ ap (λ (j : ℕ). v + edge_count quads l + j / 4) (sym corners)) ∙ marks_refined quads v l marks ∙ sym same_marks
          ∙ sym (step_marks (tension t) old ∙ ap (λ (j : ℕ). refined_marks quads j l mk) marked)

      pub refines : (y : List ℤ) (faces' marks' : List ℕ) → y ≡ filled (face_coordinates (tension t) n w₁) (take (length p₁ - first) (drop first p₁)) → faces' ≡ filled (refined quads v l) faces
          → marks' ≡ filled (extended v (v + edge + n / 4) marks) marks → Refines t v n (v + edge + n / 4) B (buffers (put_mid first (length p₁ - first) p₁ y) faces' marks' w₁)
      refines y faces' marks' hy hf hm = record {
        count = count ∙ count_is;
        new_points = part_made y hy;
        new_faces = hf ∙ ap (λ (x : List ℕ). filled x faces) (sym faces_are);
        new_marks = hm ∙ ap (λ (x : List ℕ). filled x marks) new_marks_lem;
        mated = mated₁;
        rest = rest₁;
      }
