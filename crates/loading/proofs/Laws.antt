-- How the parts of the split fit together. Assumes nothing.
use mathlib.Core.Path.{◌≡◌, refl, sym, ap, ap₂, ◌∙◌, subst}
use mathlib.Core.List.{List, []}
use Prim.Native.Nat.{ℕ, ◌+◌, ◌*◌, ◌/◌, ◌%◌, ◌≤◌, ◌<◌}
use native.Mathlib.Omega.{arith}
use lib.IntN.{ℤ}
use lib.ListN.{length, get_or, take, drop}
use Rattle.bounds.specs.Bounds.{max_half_edges}
use Rattle.lists.specs.Tabulate.{tabulate}
use Rattle.lists.proofs.Parts.{drop_later}
use Rattle.topology.specs.Shape.{Shape}
use Rattle.topology.specs.HalfEdge.{from, edge_count}
use Rattle.topology.specs.Manifold.{Oriented}
use Rattle.polygons.specs.Polygons.{shape_of}
use Rattle.polygons.proofs.Counts.{shape_none, shape_some, faces_polygons}
use Rattle.refinedfaces.specs.Refined.{refined_vertices, refined}
use Rattle.tables.specs.Tables.{filled}
use Rattle.tables.proofs.Laws.{length-filled, take-filled, filled_at, filled_over}
use Rattle.nets.specs.Net.{Net, ControlNet, control_tables, axis}
use Rattle.nets.specs.Buffers.{Buffers, buffers}
use Rattle.schemelaws.proofs.Steps.{refinable_manifold}
use Rattle.splitting.specs.Splitting.{split_coordinate, split, start_net}
use Rattle.splitting.proofs.Split.{split_faces, split_marks, split-count, split_corners, split-length, control_manifold, split_refinable, start_none, start-split}
use Rattle.splitting.proofs.Room.{control_vertices_le, split_vertices_le}
use Rattle.halfedges.specs.Tables.{MateTableOf, MateTable}
use Rattle.sidetable.specs.Table.{Shaped, Linked}
use Rattle.sidetable.proofs.Table.{shaped_kept}
use Rattle.adjacency.specs.Chains.{Tables}
use Rattle.edgenumbers.specs.Edges.{edge_count_by, with_edges, PairedIn}
use Rattle.edgenumbers.proofs.Net.{mates_paired, edges_counted, edges_mates, edges_numbered, edges_rest, edges_kept}
use Rattle.roundfaces.specs.Faces.{extended}
use Rattle.roundfaces.proofs.Round.{marks_refined, marks_cong}
use Rattle.splitvertices.specs.Passes.{Splittable, split_axis, split_vertices}
use Rattle.splitfaces.specs.Faces.{NumberedFaces}
use Rattle.loading.specs.Loading.{Loadable, SplitInto, Loaded}

-- ---- chains and mates

-- no side counts: four-sided faces
shaped_quads : (n : ℕ) (w : List ℕ) → n % 4 ≡ 0 → n ≤ max_half_edges → Shaped [] n w
shaped_quads n w a b = record {
  space = record { few = b; sided = record { fours = λ e. a; counts = λ k. let z : ⊥ = omega arith in absurd z }; room = λ k. let z : ⊥ = omega arith in absurd z };
  table = λ k. let z : ⊥ = omega arith in absurd z;
}

module _ (m : ControlNet) (o : Buffers) (ok : Loadable m o) where
  abbrev l : List ℕ
  l = m.faces

  abbrev s : List ℕ
  s = m.sides

  abbrev v : ℕ
  v = length m.marks

  abbrev S : Shape
  S = shape_of m.sides

  oriented : Oriented S v l
  oriented = (control_manifold m ok.well_formed).oriented

  few_vertices : v ≤ length l
  few_vertices = control_vertices_le m ok.well_formed

  -- ---- without side counts
  module _ (z : length s ≡ 0) where
    same : start_net m ≡ control_tables m
    same = start_none m z

    corners_same : length (start_net m).faces ≡ length l
    corners_same = ap (λ (x : Net). length x.faces) same

    pub copy_vertices : length m.vertices ≤ length o.vertices
    copy_vertices = let a = corners_same in let b = ok.room_vertices in let c = few_vertices in let t = ok.well_formed.threes in omega arith

    pub copy_faces : length l ≤ length o.faces
    copy_faces = let a = corners_same in let b = ok.room_faces in omega arith

    pub copy_marks : v ≤ length o.marks
    copy_marks = let a = corners_same in let b = ok.room_marks in let c = few_vertices in omega arith

    pub loaded_copy : (o' : Buffers) → o'.vertices ≡ filled m.vertices o.vertices → o'.faces ≡ filled l o.faces → o'.marks ≡ filled m.marks o.marks → o'.work ≡ o.work → Loaded m o o' v
    loaded_copy o' hv hf hm hw = record {
      count = sym (ap (λ (x : Net). length x.marks) same);
      vertices = hv ∙ ap (λ (x : Net). filled x.vertices o.vertices) (sym same);
      faces = hf ∙ ap (λ (x : Net). filled x.faces o.faces) (sym same);
      marks = hm ∙ ap (λ (x : Net). filled x.marks o.marks) (sym same);
      mated = rw (ap (λ (x : Net). x.faces) same) (rw hw (subst (λ (T : Shape). MateTableOf T l o.work) (shape_none s z) ok.mated));
      rest = ap (drop (4 * length (start_net m).faces)) hw;
    }

  -- ---- with side counts
  module _ (b : 0 < length s) where
    four : length (start_net m).faces ≡ 4 * length l
    four = ap (λ (x : Net). length x.faces) (start-split m b) ∙ split_corners m

    room : 16 * length l ≤ length o.work
    room = let a = four in let r = ok.room_work b in omega arith

    room₂ : 2 * length l ≤ length o.work
    room₂ = let r = room in omega arith

    faces_are : S.faces (length l) ≡ length s
    faces_are = ap (λ (T : Shape). T.faces (length l)) (shape_some s b) ∙ faces_polygons s (length l)

    count-le : refined_vertices S v l ≤ 4 * length l
    count-le = let a = split-count m in let c = split_vertices_le m ok.well_formed b in omega arith

    pub copied_vertices : length m.vertices ≤ length o.vertices
    copied_vertices = let a = four in let r = ok.room_vertices in let c = few_vertices in let t = ok.well_formed.threes in omega arith

    pub copied_marks : v ≤ length o.marks
    copied_marks = let a = four in let r = ok.room_marks in let c = few_vertices in omega arith

    pub paired : PairedIn (length l) o.work
    paired = let f = ok.few in mates_paired S l o.work room₂ ok.mated.mates v oriented (omega arith)

    counted : edge_count_by (take (length l) o.work) ≡ edge_count S l
    counted = edges_counted S l o.work (let r = room₂ in omega arith) ok.mated.mates

    -- ---- once the edges are numbered
    module _ (w₁ : List ℕ) (e₁ : w₁ ≡ filled (with_edges (take (length l) o.work)) o.work) where
      kept₁ : length w₁ ≡ length o.work
      kept₁ = edges_kept S l o.work room₂ ok.mated.mates w₁ e₁

      pub rest₁ : drop (2 * length l) w₁ ≡ drop (2 * length l) o.work
      rest₁ = edges_rest S l o.work room₂ ok.mated.mates w₁ e₁

      shaped₁ : Shaped s (length l) w₁
      shaped₁ = shaped_kept s (length l) o.work w₁ kept₁ (drop_later (2 * length l) (4 * length l) w₁ o.work (omega arith) rest₁) ok.shaped

      pub linked₁ : Linked s l w₁
      linked₁ = record {
        shaped = shaped₁;
        room = let k = kept₁ in let r = room in omega arith;
        mated = record { mates = edges_mates S l o.work room₂ ok.mated.mates w₁ e₁ };
      }

      pub numbered_faces : (e : ℕ) → e ≡ edge_count_by (take (length l) o.work) → NumberedFaces s l w₁ v e o.faces
      numbered_faces e h = record {
        some = b;
        shaped = shaped₁;
        numbered = edges_numbered S l o.work room₂ ok.mated.mates w₁ e₁;
        counted = h ∙ counted;
        vertices = few_vertices;
        behind = let k = kept₁ in let r = room in omega arith;
        room = let a = four in let r = ok.room_faces in omega arith;
      }

    -- ---- once the drawn vertices stand at the front
    module _ (p : List ℤ) (ep : p ≡ filled m.vertices o.vertices) where
      length_p : length p ≡ length o.vertices
      length_p = ap length ep ∙ length-filled m.vertices o.vertices copied_vertices

      front_p : take (3 * v) p ≡ m.vertices
      front_p = ap (take (3 * v)) ep ∙ take-filled m.vertices o.vertices (3 * v) (sym ok.well_formed.threes)

      pub splittable : Splittable s l v p
      splittable = record {
        some = b;
        counts = ok.well_formed.sided.counts b;
        oriented = oriented;
        room = let a = four in let r = ok.room_vertices in let c = count-le in let k = length_p in omega arith;
        within = rw front_p ok.within;
      }

      vertices_are : split_vertices s l v p ≡ (split m).vertices
      unfolding split_vertices split_axis split
      vertices_are = ap (λ (t : List ℤ). tabulate (3 * refined_vertices S v l) (λ (i : ℕ). split_coordinate S v l (axis t (i % 3)) (i / 3))) front_p

      pub vertices_split : (p' : List ℤ) → p' ≡ filled (split_vertices s l v p) p → p' ≡ filled (split m).vertices o.vertices
      vertices_split p' e =
          let n = split-length m in
          let t = ok.well_formed.threes in
          e ∙ ap₂ (λ (x y : List ℤ). filled x y) vertices_are ep ∙ filled_over m.vertices (split m).vertices o.vertices (omega arith)

    -- ---- marks, where e edges are counted
    module _ (e : ℕ) (h : e ≡ edge_count_by (take (length l) o.work)) where
      count_is : v + e + length s ≡ refined_vertices S v l
      count_is = ap₂ (λ (i j : ℕ). v + i + j) (h ∙ counted) (sym faces_are)

      pub count-split : v + e + length s ≡ length (split m).marks
      count-split = count_is ∙ sym (split-count m)

      pub count_room : v + e + length s ≤ 4 * length l
      count_room = let a = count_is in let c = count-le in omega arith

      module _ (q : List ℕ) (eq : q ≡ filled m.marks o.marks) where
        pub marks_room : v + e + length s ≤ length q
        marks_room =
            let a = four in
            let r = ok.room_marks in
            let c = count_room in
            let k = ap length eq ∙ length-filled m.marks o.marks copied_marks in
            omega arith

        marks_are : extended v (v + e + length s) q ≡ (split m).marks
        marks_are =
            ap (λ (i : ℕ). extended v i q) count_is ∙ marks_refined S v l q
            ∙ marks_cong S v l q m.marks (λ i k. ap (λ (x : List ℕ). get_or x i 0) eq ∙ filled_at m.marks o.marks 0 i k) ∙ sym (split_marks m)

        pub marks_split : (q' : List ℕ) → q' ≡ filled (extended v (v + e + length s) q) q → q' ≡ filled (split m).marks o.marks
        marks_split q' x =
            let c = count-split in
            x ∙ ap₂ (λ (y z : List ℕ). filled y z) marks_are eq ∙ filled_over m.marks (split m).marks o.marks (omega arith)

    pub faces_split : (f' : List ℕ) → f' ≡ filled (refined S v l) o.faces → f' ≡ filled (split m).faces o.faces
    faces_split f' x = x ∙ ap (λ (y : List ℕ). filled y o.faces) (sym (split_faces m))

    -- ---- once the net is split
    module _ (o₁ : Buffers) (r : ℕ) (done : SplitInto m o o₁ r) (k : length o₁.work ≡ length o.work) where
      front_faces : take (4 * length l) o₁.faces ≡ (split m).faces
      front_faces = ap (take (4 * length l)) done.faces ∙ take-filled (split m).faces o.faces (4 * length l) (sym (split_corners m))

      pub faces_long : 4 * length l ≤ length o₁.faces
      faces_long =
          let a = four in
          let c = split_corners m in
          let q = ok.room_faces in
          let d = ap length done.faces ∙ length-filled (split m).faces o.faces (omega arith) in
          omega arith

      pub tables_split : Tables [] (take (4 * length l) o₁.faces) o₁.work
      unfolding from
      tables_split =
          let c = split_corners m in
          let q = room in
          let f = ok.few_split b in
          let x = split_refinable m ok.well_formed in
          let y = (refinable_manifold (split m) x).oriented in
          let u = split_vertices_le m ok.well_formed b in
          rw front_faces (record {
            shaped = shaped_quads (length (split m).faces) o₁.work x.fours (omega arith);
            few = omega arith;
            corners = record { below = λ g i. let d = y.below g i in omega arith };
            room = omega arith;
          })

      pub loaded-split : (w₂ : List ℕ) → MateTableOf (shape_of []) (take (4 * length l) o₁.faces) w₂
          → drop (3 * length (take (4 * length l) o₁.faces)) w₂ ≡ drop (3 * length (take (4 * length l) o₁.faces)) o₁.work
          → Loaded m o (buffers o₁.vertices o₁.faces o₁.marks w₂) r
      loaded-split w₂ t d =
          let g = start-split m b in
          let c = split_corners m in
          let a = four in
          let j : length (take (4 * length l) o₁.faces) ≡ 4 * length l = ap length front_faces ∙ c in
          record {
            count = done.count ∙ ap (λ (x : Net). length x.marks) (sym g);
            vertices = done.vertices ∙ ap (λ (x : Net). filled x.vertices o.vertices) (sym g);
            faces = done.faces ∙ ap (λ (x : Net). filled x.faces o.faces) (sym g);
            marks = done.marks ∙ ap (λ (x : Net). filled x.marks o.marks) (sym g);
            mated = rw (ap (λ (x : Net). x.faces) g) (rw front_faces at (quad t));
            rest = drop_later (3 * length (take (4 * length l) o₁.faces)) (4 * length (start_net m).faces) w₂ o₁.work (omega arith) d
                ∙ drop_later (2 * length l) (4 * length (start_net m).faces) o₁.work o.work (omega arith) done.rest;
          }
        where
          quad : {x y : List ℕ} → MateTableOf (shape_of []) x y → MateTable x y
          quad {x} {y} u = subst (λ (T : Shape). MateTableOf T x y) (shape_none [] refl) u
