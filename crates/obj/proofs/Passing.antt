-- Reading items one after another: what is left to read after each turn, and what was met. Assumes nothing.
use mathlib.Core.Path.{◌≡◌, refl, sym, ap, ◌∙◌}
use mathlib.Core.List.{List, [], ◌∷◌, ◌++◌}
use Prim.Native.Nat.{ℕ, ◌+◌, ◌*◌, ◌-◌, ◌≤◌, ◌<◌}
use native.Mathlib.Omega.{arith}
use lib.IntN.{ℤ}
use lib.ListN.{length, drop, length-drop, drop_of_length-le}
use lib.Seq.{sets, length-sets}
use Rattle.decimalform.specs.Decimal.{read_as, bad}
use Rattle.decimalform.proofs.Writing.{sets_after}
use Rattle.textform.specs.Form.{Vertex, Face, Rows, rows, one_more}
use Rattle.readingform.specs.Loaded.{coordinates_of, marks_of, corners_of}
use Rattle.textform.proofs.Lines.{rows_length}
use Rattle.reading.proofs.Lines.{rows_bad, rows_next, Passed, passed_bad, passed_more}
use Rattle.readingform.proofs.Lengths.{length_coordinates, length_marks, length_corners}
use Rattle.reading.proofs.Storing.{Filling, filling_more, filling_bad}
use Rattle.objform.proofs.Net.{item_none, vertices_one, faces_one, vertices_length, faces_length, vertices_most, faces_most}
use Rattle.objform.specs.Form.{Item, read_item, vertices_in, faces_in, items}
use Rattle.text.specs.declared.Vertex as code
use Rattle.text.specs.declared.Face as code_face
use Rattle.text.specs.Answers.{vertex_is, face_is}
use Rattle.obj.specs.declared.Item as declared
use Rattle.obj.specs.declared.Item.TheVariants as item
use Rattle.obj.specs.Answers.{item_is, item_vertices, item_faces, MeetsItem, AllGood, BadAt, ItemsStored, ItemsRoom, RoomFor, ItemStored}

-- there are no more vertices and faces than bytes
pub vertices_few : (l : List ℕ) → length (item_vertices l) ≤ length l
vertices_few l = let a = vertices_most (items l).values in let b = rows_length read_item (length l) l in omega arith

pub faces_few : (l : List ℕ) → length (item_faces l) ≤ length l
faces_few l = let a = faces_most (items l).values in let b = rows_length read_item (length l) l in omega arith

-- ---- what one item adds
module _ {i : declared.Item} (v f : ℕ) where
  pub meets_vertex : {x : code.Vertex} → i ≡ item.Vertex x → MeetsItem (item_is i) v f (v + 1) f
  unfolding vertices_in faces_in
  meets_vertex e = rw e (record { vertices = refl; faces = omega arith })

  pub meets_face : {x : code_face.Face} → i ≡ item.Face x → MeetsItem (item_is i) v f v (f + 1)
  unfolding vertices_in faces_in
  meets_face e = rw e (record { vertices = omega arith; faces = refl })

  pub meets_comment : i ≡ item.Comment → MeetsItem (item_is i) v f v f
  unfolding vertices_in faces_in
  meets_comment e = rw e (record { vertices = omega arith; faces = omega arith })

  -- and what it needs and leaves
  module _ {x : code.Vertex} (e : i ≡ item.Vertex x) where
    pub room_vertex : {a b c : ℕ} → RoomFor (item_is i) v f a b c → (3 * v + 3 ≤ a) × (v < c)
    unfolding vertices_in
    room_vertex r = let q : length (vertices_in (item_is i ∷ [])) ≡ 1 = rw e in let h = r.vertices in let k = r.marks in (omega arith, omega arith)

    pub stored_vertex : {t u : List ℤ} {c m o : List ℕ} → u ≡ sets t (3 * v) (coordinates_of (vertex_is x ∷ [])) → o ≡ sets m v (marks_of (vertex_is x ∷ [])) → ItemStored (item_is i) v f (v + 1) f t u c c m o
    unfolding vertices_in faces_in corners_of
    stored_vertex p q = record { meets = meets_vertex e; stored = rw e (record { vertices = p; faces = refl; marks = q }) }

  module _ {x : code_face.Face} (e : i ≡ item.Face x) where
    pub room_face : {p q r : ℕ} → RoomFor (item_is i) v f p q r → 4 * f + 4 ≤ q
    unfolding faces_in
    room_face r = let q : length (faces_in (item_is i ∷ [])) ≡ 1 = rw e in let h = r.faces in omega arith

    pub stored_face : {t : List ℤ} {k d m : List ℕ} → d ≡ sets k (4 * f) (corners_of (face_is x ∷ [])) → ItemStored (item_is i) v f v (f + 1) t t k d m m
    unfolding vertices_in faces_in coordinates_of marks_of
    stored_face p = record { meets = meets_face e; stored = rw e (record { vertices = refl; faces = p; marks = refl }) }

  pub stored_comment : i ≡ item.Comment → (t : List ℤ) (c m : List ℕ) → ItemStored (item_is i) v f v f t t c c m m
  unfolding vertices_in faces_in coordinates_of corners_of marks_of
  stored_comment e t c m = record { meets = meets_comment e; stored = rw e (record { vertices = refl; faces = refl; marks = refl }) }

-- ---- turns
pub item_end : (l : List ℕ) (at : ℕ) → length l ≤ at → read_item (drop at l) ≡ bad
item_end l at h = ap read_item (drop_of_length-le l {i = at} h) ∙ item_none

abbrev left : List ℕ → ℕ → ℕ → Rows Item
left l lines at = rows read_item (length l - lines) (drop at l)

-- after `lines` lines and `at` bytes of l, v vertices and f faces are met, and the rest is read as the whole
pub record ItemsMet (l : List ℕ) (v f lines at : ℕ) : Type 0 where
  pub passed : Passed read_item (length l) l lines at
  pub few : lines ≤ at
  pub vertices : length (item_vertices l) ≡ v + length (vertices_in (left l lines at).values)
  pub faces : length (item_faces l) ≡ f + length (faces_in (left l lines at).values)

module _ {l : List ℕ} {v f lines at : ℕ} (p : ItemsMet l v f lines at) where
  -- the next line is good, and has the item i
  module _ (i : Item) (n : ℕ) (e : read_item (drop at l) ≡ read_as i (drop n (drop at l))) (some : 0 < n) (h : at + n ≤ length l) where
    before : lines < length l
    before = let a = p.few in omega arith

    more : left l lines at ≡ one_more i (left l (lines + 1) (at + n))
    more = rows_next read_item (length l) l lines at i n before e

    next_vertices : length (vertices_in (left l lines at).values) ≡ length (vertices_in (i ∷ [])) + length (vertices_in (left l (lines + 1) (at + n)).values)
    next_vertices = ap (λ (w : Rows Item). length (vertices_in w.values)) more ∙ vertices_length i (left l (lines + 1) (at + n)).values

    next_faces : length (faces_in (left l lines at).values) ≡ length (faces_in (i ∷ [])) + length (faces_in (left l (lines + 1) (at + n)).values)
    next_faces = ap (λ (w : Rows Item). length (faces_in w.values)) more ∙ faces_length i (left l (lines + 1) (at + n)).values

    met_more : {w g : ℕ} → MeetsItem i v f w g → ItemsMet l w g (lines + 1) (at + n)
    met_more m =
        let a = p.vertices in
        let b = p.faces in
        let c = next_vertices in
        let d = next_faces in
        let s = m.vertices in
        let t = m.faces in
        let k = p.few in
        record { passed = passed_more p.passed i n before e h; few = omega arith; vertices = omega arith; faces = omega arith }

    pub room_next : {a b c : ℕ} → ItemsRoom (length (item_vertices l)) (length (item_faces l)) a b c → RoomFor i v f a b c
    room_next r =
        let s = p.vertices in
        let t = p.faces in
        let c = next_vertices in
        let d = next_faces in
        let x = r.vertices in
        let y = r.faces in
        let z = r.marks in
        record { vertices = omega arith; faces = omega arith; marks = omega arith }

  -- no line is left, or the next is bad
  module _ (e : read_item (drop at l) ≡ bad) where
    none_left : left l lines at ≡ record { values = []; rest = drop at l }
    none_left = rows_bad read_item (length l - lines) (drop at l) e

    pub met_all : length l ≤ at → AllGood l v f
    unfolding vertices_in faces_in
    met_all h =
        let n = none_left in
        record {
          vertices = p.vertices ∙ ap (λ (w : Rows Item). v + length (vertices_in w.values)) n ∙ omega arith;
          faces = p.faces ∙ ap (λ (w : Rows Item). f + length (faces_in w.values)) n ∙ omega arith;
          rest = p.passed.rest ∙ ap (λ (w : Rows Item). w.rest) n ∙ drop_of_length-le l {i = at} h;
        }

    pub met_bad : at < length l → {line : ℕ} → line ≡ 2 + lines → BadAt l line
    met_bad h q =
        let c = passed_bad p.passed e in
        let a = c.good in
        let b = ap length c.rest in
        record { line = omega arith; some = omega (arith, length-drop at l) }

-- ---- the first pass, at the start of the line `line`
pub record Counting (l : List ℕ) (v f line at : ℕ) : Type 0 where
  pub lines : ℕ
  pub is : line ≡ 2 + lines
  pub met : ItemsMet l v f lines at

pub counting_more : {l : List ℕ} {v f line at : ℕ} → Counting l v f line at → (i : Item) (n : ℕ) → read_item (drop at l) ≡ read_as i (drop n (drop at l)) → 0 < n → at + n ≤ length l
    → {w g : ℕ} → MeetsItem i v f w g → Counting l w g (line + 1) (at + n)
counting_more c i n e some h m = let k = c.is in record { lines = c.lines + 1; is = omega arith; met = met_more c.met i n e some h m }

-- ---- the second pass: the tables t, f, m are filled up to v vertices and g faces, and were t₀, f₀, m₀
abbrev flat_vertices : List Item → List ℤ
flat_vertices is = coordinates_of (vertices_in is)

abbrev flat_marks : List Item → List ℕ
flat_marks is = marks_of (vertices_in is)

abbrev flat_faces : List Item → List ℕ
flat_faces is = corners_of (faces_in is)

pub record Storing (l : List ℕ) (t₀ t : List ℤ) (f₀ f m₀ m : List ℕ) (v g at : ℕ) : Type 0 where
  pub lines : ℕ
  pub met : ItemsMet l v g lines at
  pub vertices : Filling flat_vertices read_item (length l) l t₀ t (3 * v) lines at
  pub faces : Filling flat_faces read_item (length l) l f₀ f (4 * g) lines at
  pub marks : Filling flat_marks read_item (length l) l m₀ m v lines at

-- one item's numbers are stored before those of others
next_stored : {E : Type 0} (flat : List Item → List E) (i : Item) → ((is : List Item) → flat (i ∷ is) ≡ flat (i ∷ []) ++ flat is) → (t u : List E) (k j : ℕ)
    → u ≡ sets t k (flat (i ∷ [])) → j ≡ k + length (flat (i ∷ [])) → (is : List Item) → sets t k (flat (i ∷ is)) ≡ sets u j (flat is)
next_stored flat i split t u k j e q is = rw (split is, e, q) (sym (sets_after (flat (i ∷ [])) t (flat is) k))

coordinates_append : (a b : List Vertex) → coordinates_of (a ++ b) ≡ coordinates_of a ++ coordinates_of b
unfolding coordinates_of
coordinates_append [] b = refl
coordinates_append (v ∷ a) b = ap (λ (t : List ℤ). v.x ∷ v.y ∷ v.z ∷ t) (coordinates_append a b)

marks_append : (a b : List Vertex) → marks_of (a ++ b) ≡ marks_of a ++ marks_of b
unfolding marks_of
marks_append [] b = refl
marks_append (v ∷ a) b = ap (λ (t : List ℕ). v.mark ∷ t) (marks_append a b)

corners_append : (a b : List Face) → corners_of (a ++ b) ≡ corners_of a ++ corners_of b
unfolding corners_of
corners_append [] b = refl
corners_append (f ∷ a) b = ap (λ (t : List ℕ). f.a ∷ f.b ∷ f.c ∷ f.d ∷ t) (corners_append a b)

module _ (i : Item) (is : List Item) where
  vertices_split : flat_vertices (i ∷ is) ≡ flat_vertices (i ∷ []) ++ flat_vertices is
  vertices_split = ap coordinates_of (vertices_one i is) ∙ coordinates_append (vertices_in (i ∷ [])) (vertices_in is)

  marks_split : flat_marks (i ∷ is) ≡ flat_marks (i ∷ []) ++ flat_marks is
  marks_split = ap marks_of (vertices_one i is) ∙ marks_append (vertices_in (i ∷ [])) (vertices_in is)

  faces_split : flat_faces (i ∷ is) ≡ flat_faces (i ∷ []) ++ flat_faces is
  faces_split = ap corners_of (faces_one i is) ∙ corners_append (faces_in (i ∷ [])) (faces_in is)

module _ {l : List ℕ} {t₀ t : List ℤ} {f₀ f m₀ m : List ℕ} {v g at : ℕ} (s : Storing l t₀ t f₀ f m₀ m v g at) where
  module _ (i : Item) (n : ℕ) (e : read_item (drop at l) ≡ read_as i (drop n (drop at l))) (some : 0 < n) (h : at + n ≤ length l) where
    pub storing_more : {w k : ℕ} {u : List ℤ} {d o : List ℕ} → ItemStored i v g w k t u f d m o → Storing l t₀ u f₀ d m₀ o w k (at + n)
    storing_more {w} {k} {u} {d} {o} q =
        let b = before s.met i n e some h in
        let x = q.meets.vertices in
        let y = q.meets.faces in
        let lv = length_coordinates (vertices_in (i ∷ [])) in
        let lm = length_marks (vertices_in (i ∷ [])) in
        let lf = length_corners (faces_in (i ∷ [])) in
        record {
          lines = s.lines + 1;
          met = met_more s.met i n e some h q.meets;
          vertices = filling_more s.vertices i n u (3 * w) b e (next_stored flat_vertices i (vertices_split i) t u (3 * v) (3 * w) q.stored.vertices (omega arith)) (ap length q.stored.vertices ∙ length-sets t (3 * v) (flat_vertices (i ∷ [])));
          faces = filling_more s.faces i n d (4 * k) b e (next_stored flat_faces i (faces_split i) f d (4 * g) (4 * k) q.stored.faces (omega arith)) (ap length q.stored.faces ∙ length-sets f (4 * g) (flat_faces (i ∷ [])));
          marks = filling_more s.marks i n o w b e (next_stored flat_marks i (marks_split i) m o v w q.stored.marks (omega arith)) (ap length q.stored.marks ∙ length-sets m v (flat_marks (i ∷ [])));
        }

  pub storing_ends : read_item (drop at l) ≡ bad → ItemsStored (item_vertices l) (item_faces l) 0 0 t₀ t f₀ f m₀ m
  unfolding vertices_in faces_in coordinates_of corners_of marks_of
  storing_ends e = record { vertices = filling_bad s.vertices (λ t j. refl) e; faces = filling_bad s.faces (λ t j. refl) e; marks = filling_bad s.marks (λ t j. refl) e }

  -- the tables keep their lengths
  pub room_kept : {a b : ℕ} → ItemsRoom a b (length t₀) (length f₀) (length m₀) → ItemsRoom a b (length t) (length f) (length m)
  room_kept r = let a = s.vertices.kept in let b = s.faces.kept in let c = s.marks.kept in rw (a, b, c) r
