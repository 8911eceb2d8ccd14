-- Laws of the passes over edges and faces. Assumes nothing.
use mathlib.Core.Path.{◌≡◌, refl, sym, ap, ap₂, ◌∙◌, subst}
use mathlib.Core.List.{List, ◌++◌}
use Prim.Native.Nat.{ℕ, ◌+◌, ◌*◌, ◌/◌, ◌%◌, ◌≤◌, ◌<◌}
use native.Mathlib.Numerals.{add-one}
use native.Mathlib.Omega.{arith}
use lib.IntN.{ℤ, pos, ◌+ℤ◌}
use lib.ListN.{length, get_or, take, drop, get_or-append, take-append-drop}
use lib.Seq.{length-take-le, get_or-take, drop_at, ext_get_or}
use Rattle.lists.specs.Tabulate.{tabulate}
use Rattle.lists.proofs.Tabulate.{length-tabulate, get_or-tabulate}
use Rattle.lists.proofs.Parts.{drop_later}
use Rattle.integers.proofs.Sum.{sum_cong}
use Rattle.rounding.specs.Rounding.{round}
use Rattle.search.specs.Search.{count}
use Rattle.topology.specs.Shape.{Shape}
use Rattle.topology.specs.HalfEdge.{from, to, mate, first_met, edge_count, edge}
use Rattle.topology.proofs.Mates.{edge-lt, edge_new, count_new, count_old}
use Rattle.polygons.specs.Polygons.{shape_of, total}
use Rattle.polygons.proofs.Counts.{face_fits, shape_some, faces_polygons}
use Rattle.refinedfaces.specs.Refined.{refined_vertices}
use Rattle.tables.specs.Tables.{filled}
use Rattle.nets.specs.Net.{axis}
use Rattle.splitting.specs.Splitting.{split_coordinate}
use Rattle.splitting.proofs.Coordinates.{split_old, split-edge, split_face_counts}
use Rattle.sidetable.specs.Table.{Linked}
use Rattle.coordinates.specs.Points.{put_point}
use Rattle.coordinates.proofs.Points.{written_next}
use Rattle.coordinates.proofs.Points.{put_point_is}
use Rattle.splitpoints.specs.Points.{BoundedVertex, Corners, midpoint_on, corner_on, mean_on}
use Rattle.splitvertices.specs.Passes.{Splittable, split_axis, split_vertices, Made, SplitTurn, SplitTurned, met, passed}

-- an entry of a table is the coordinate of a vertex
entry-axis : (t : List ℤ) (k : ℕ) → get_or t k (pos 0) ≡ axis t (k % 3) (k / 3)
unfolding axis
entry-axis t k = let e : k ≡ 3 * (k / 3) + k % 3 = omega arith in ap (λ (j : ℕ). get_or t j (pos 0)) e

-- what is written is the split
made_axis : (s l : List ℕ) (v : ℕ) (o t : List ℤ) (i a u : ℕ) → Made s l v o t i → a < 3 → u < i → axis t a u ≡ split_axis s l v o a u
unfolding axis
made_axis s l v o t i a u m b k =
    let F : ℕ → ℤ = λ j. split_axis s l v o (j % 3) (j / 3) in
    let n = length-tabulate (3 * i) F in
    let q : (3 * u + a) / 3 ≡ u = omega arith in
    let r : (3 * u + a) % 3 ≡ a = omega arith in
    ap (λ (x : List ℤ). get_or x (3 * u + a) (pos 0)) m.points ∙ get_or-append (tabulate (3 * i) F) (drop (3 * i) o) (pos 0) (3 * u + a) (omega arith)
    ∙ get_or-tabulate (3 * i) F (3 * u + a) (pos 0) (omega arith) ∙ ap₂ (split_axis s l v o) r q

module _ (s l : List ℕ) (v : ℕ) (o : List ℤ) (ok : Splittable s l v o) where
  abbrev S : Shape
  S = shape_of s

  -- the drawn vertices
  front : length (take (3 * v) o) ≡ 3 * v
  front = let r = ok.room in length-take-le (3 * v) o (omega arith)

  faces_are : S.faces (length l) ≡ length s
  faces_are = ap (λ (T : Shape). T.faces (length l)) (shape_some s ok.some) ∙ faces_polygons s (length l)

  old_axis_lem : (a u : ℕ) → u < v → split_axis s l v o a u ≡ axis (take (3 * v) o) a u
  unfolding split_axis
  old_axis_lem a u k = split_old S v l (axis (take (3 * v) o) a) u k

  pub made_none : Made s l v o o v
  made_none = record { kept = refl; points = sym (ap (λ (x : List ℤ). x ++ drop (3 * v) o) old ∙ take-append-drop (3 * v) o) }
    where
      F : ℕ → ℤ
      F k = split_axis s l v o (k % 3) (k / 3)

      old : tabulate (3 * v) F ≡ take (3 * v) o
      old =
          let n = length-tabulate (3 * v) F in
          let e = front in
          ext_get_or (pos 0) (tabulate (3 * v) F) (take (3 * v) o) (n ∙ sym e)
          (λ k b. get_or-tabulate (3 * v) F k (pos 0) (omega arith) ∙ old_axis_lem (k % 3) (k / 3) (omega arith) ∙ sym (entry-axis (take (3 * v) o) k))

  -- ---- while the vertices below i are made
  module _ (t : List ℤ) (i : ℕ) (b : v ≤ i) (m : Made s l v o t i) where
    control_axis : (a u : ℕ) → a < 3 → u < v → axis t a u ≡ axis (take (3 * v) o) a u
    control_axis a u h k = made_axis s l v o t i a u m h (omega arith) ∙ old_axis_lem a u k

    bounded_vertex : (u : ℕ) → u < v → BoundedVertex t u
    unfolding axis
    bounded_vertex u k = record {
      room = let r = ok.room in let e = m.kept in omega arith;
      small = λ a h. let f = front in rw (control_axis a u h k) (ok.within.at (3 * u + a) (omega arith));
    }

    corner_vertex : (g : ℕ) → g < length l → BoundedVertex t (from l g)
    corner_vertex g k = bounded_vertex (from l g) (ok.oriented.below g k)

    front_kept : take (3 * v) t ≡ take (3 * v) o
    front_kept =
        let f = front in
        let r = ok.room in
        let e = m.kept in
        let g = length-take-le (3 * v) t (omega arith) in
        ext_get_or (pos 0) (take (3 * v) t) (take (3 * v) o) (g ∙ sym f)
        (λ k c. get_or-take (3 * v) t k (pos 0) (omega arith) ∙ entry-axis t k ∙ control_axis (k % 3) (k / 3) (omega arith) (omega arith) ∙ sym (entry-axis (take (3 * v) o) k))

    -- so the table may be taken for the one at the start
    same-split : split_axis s l v t ≡ split_axis s l v o
    unfolding split_axis
    same-split = let f : List ℤ → ℕ → ℕ → ℤ = λ x a u. split_coordinate S v l (axis x a) u in ap f front_kept

    pub splittable_kept : Splittable s l v t
    splittable_kept = record {
      some = ok.some;
      counts = ok.counts;
      oriented = ok.oriented;
      room = let r = ok.room in let e = m.kept in omega arith;
      within = rw front_kept ok.within;
    }

    rest_kept : drop (3 * i) t ≡ drop (3 * i) o
    rest_kept =
        let F : ℕ → ℤ = λ k. split_axis s l v o (k % 3) (k / 3) in
        ap (drop (3 * i)) m.points ∙ drop_at (tabulate (3 * i) F) (drop (3 * i) o) (3 * i) (length-tabulate (3 * i) F)

    pub made_again : Made s l v t t i
    made_again = record {
      kept = refl;
      points = m.points ∙ ap₂ (λ (G : ℕ → ℕ → ℤ) (x : List ℤ). tabulate (3 * i) (λ (k : ℕ). G (k % 3) (k / 3)) ++ x) (sym same-split) (sym rest_kept);
    }

    pub made_then : (t' : List ℤ) (j : ℕ) → i ≤ j → Made s l v t t' j → Made s l v o t' j
    made_then t' j h x = record {
      kept = x.kept ∙ m.kept;
      points = x.points
          ∙ ap₂ (λ (G : ℕ → ℕ → ℤ) (y : List ℤ). tabulate (3 * j) (λ (k : ℕ). G (k % 3) (k / 3)) ++ y) same-split (drop_later (3 * i) (3 * j) t o (omega arith) rest_kept);
    }

    -- ---- edges
    midpoint_made : (h a : ℕ) → h < length l → a < 3 → midpoint_on t (from l h) (to S l h) a ≡ split_axis s l v o a (v + edge S l h)
    unfolding midpoint_on split_axis to
    midpoint_made h a k c =
        ap₂ (λ (x y : ℤ). round (x +ℤ y) 2) (control_axis a (from l h) c (ok.oriented.below h k))
        (control_axis a (from l (S.next h)) c (ok.oriented.below (S.next h) (ok.oriented.shape.next_lt h k)))
        ∙ sym (split-edge S v l ok.oriented (axis (take (3 * v) o) a) h k)

    -- ---- faces: face f has c corners, from g on
    corner_made : (g i a : ℕ) → a < 3 → g + i < length l → corner_on t l g a i ≡ axis (take (3 * v) o) a (from l (g + i))
    unfolding corner_on
    corner_made g i a c h = control_axis a (from l (g + i)) c (ok.oriented.below (g + i) h)

    mean_made : (f a : ℕ) → f < length s → a < 3 → mean_on t l (total (take f s)) (get_or s f 0) a ≡ split_axis s l v o a (v + edge_count S l + f)
    unfolding mean_on split_axis
    mean_made f a k c =
        let z = face_fits s (length l) f ok.counts k in
        let g : ℕ = total (take f s) in
        ap (λ (x : ℤ). round x (get_or s f 0)) (sum_cong (get_or s f 0) (corner_on t l g a) (λ (i : ℕ). axis (take (3 * v) o) a (from l (g + i))) (λ i h. corner_made g i a c (omega (arith, z.ends))))
        ∙ sym (split_face_counts s l ok.counts f k v (axis (take (3 * v) o) a))

    pub face_corners : (f g c : ℕ) → f < length s → g ≡ total (take f s) → c ≡ get_or s f 0 → Corners t l g c
    face_corners f g c k eg ec =
        let z = face_fits s (length l) f ok.counts k in
        let x = z.count.three in
        let y = z.count.eight in
        record { some = omega arith; eight = omega arith; ends = omega (arith, z.ends); each = λ j h. corner_vertex (g + j) (omega (arith, z.ends)) }

    pub face_room : (f : ℕ) → f < length s → i ≡ v + edge_count S l + f → 3 * i + 3 ≤ length t
    face_room f k e = let r = ok.room in let q = faces_are in let x = m.kept in omega arith

    pub face_made : (t' : List ℤ) (f g c : ℕ) → f < length s → i ≡ v + edge_count S l + f → g ≡ total (take f s) → c ≡ get_or s f 0
        → t' ≡ put_point t i (mean_on t l g c 0) (mean_on t l g c 1) (mean_on t l g c 2) → Made s l v o t' (i + 1)
    face_made t' f g c k e eg ec p =
        let r = face_room f k e in
        let x = m.kept in
        let G : ℕ → ℕ → ℤ = split_axis s l v o in
        let at : (a : ℕ) → a < 3 → mean_on t l g c a ≡ G a i =
        λ a h. ap₂ (λ (x y : ℕ). mean_on t l x y a) eg ec ∙ mean_made f a k h ∙ ap (G a) (sym e) in
        written_next G o t t' i (omega arith) m (put_point_is t t' i _ _ _ (G 0 i) (G 1 i) (G 2 i) p (at 0 (omega arith)) (at 1 (omega arith)) (at 2 (omega arith)))

  -- ---- a turn of the pass over the edges
  module _ (w : List ℕ) (k : Linked s l w) (t : List ℤ) (e h : ℕ) (m : Made s l v o t (v + e)) (b : h < length l) (c : e ≡ count (first_met S l) h) where
    edge-room : h < mate S l h → 3 * (v + e) + 3 ≤ length t
    edge-room a = let x = edge_new S l h a in let y = edge-lt S v l ok.oriented h b in let r = ok.room in let z = m.kept in omega arith

    pub turn_in : SplitTurn s l w v t h e
    turn_in = record { linked = k; lt = b; ends = corner_vertex t (v + e) (omega arith) m; room = edge-room }

    pub turned_made : (r : ℕ) (t' : List ℤ) → SplitTurned s l v h e r t t' → Made s l v o t' (v + r)
    turned_made r t' (met a er et) =
        let G : ℕ → ℕ → ℤ = split_axis s l v o in
        let x : v + edge S l h ≡ v + e = ap (λ (j : ℕ). v + j) (edge_new S l h a ∙ sym c) in
        let at : (j : ℕ) → j < 3 → midpoint_on t (from l h) (to S l h) j ≡ G j (v + e) = λ j i. midpoint_made t (v + e) (omega arith) m h j b i ∙ ap (G j) x in
        let y : v + e + 1 ≡ v + r = omega arith in
        let z = edge-room a in
        let q = m.kept in
        subst (Made s l v o t') y
        (written_next G o t t' (v + e) (omega arith) m (put_point_is t t' (v + e) _ _ _ (G 0 (v + e)) (G 1 (v + e)) (G 2 (v + e)) et (at 0 (omega arith)) (at 1 (omega arith)) (at 2 (omega arith))))
    turned_made r t' (passed a er et) = subst (λ (j : ℕ). Made s l v o t' (v + j)) (sym er) (subst (λ (q : List ℤ). Made s l v o q (v + e)) (sym et) m)

    pub turned_count : (r : ℕ) (t' : List ℤ) → SplitTurned s l v h e r t t' → r ≡ count (first_met S l) (h + 1)
    turned_count r t' (met a er et) = rw (add-one h) (er ∙ ap (λ (j : ℕ). j + 1) c ∙ sym (count_new S l h a))
    turned_count r t' (passed a er et) = rw (add-one h) (er ∙ c ∙ sym (count_old S l h a))

  -- ---- after both passes
  pub made_all : (t : List ℤ) (i : ℕ) → i ≡ v + edge_count S l + length s → Made s l v o t i → t ≡ filled (split_vertices s l v o) o
  unfolding filled split_vertices
  made_all t i e m =
      let F : ℕ → ℤ = λ k. split_axis s l v o (k % 3) (k / 3) in
      let n : ℕ = 3 * refined_vertices S v l in
      let q = faces_are in
      let x : 3 * i ≡ n = omega arith in
      m.points ∙ ap (λ (k : ℕ). tabulate k F ++ drop k o) x ∙ ap (λ (k : ℕ). tabulate n F ++ drop k o) (sym (length-tabulate n F))
