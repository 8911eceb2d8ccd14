-- A text whose first k lines are those of a net has its first bad line after them. Assumes nothing.
use mathlib.Core.Path.{◌≡◌, refl, sym, subst}
use mathlib.Core.Bool.{Bool, true, false, cond}
use mathlib.Core.List.{List, [], ◌∷◌, ◌++◌, map, append_assoc, append-nil}
use mathlib.Core.Logic.{◌⊎◌, inl, inr}
use Prim.Native.Nat.{ℕ, zero, suc, ◌+◌, ◌-◌, ◌≤◌, ◌<◌}
use native.Mathlib.Omega.{arith}
use lib.Dec.{eqb}
use lib.ListN.{length, take, length-append, length-map}
use borrow.Author.Tests.{eq-eqb}
use Rattle.decimalform.specs.Decimal.{Read, read_as, bad}
use Rattle.textform.specs.Form.{TextCounts, Vertex, Face, TextNet, Columns, Head, has_mark, input_names, column_names, corner_names, read_input, read_columns, read_corner_names, read_counts, read_vertex, read_face, Rows, rows, one_more, Parsed, parsed, bad_line, next, line, lines, ended, parse_head, parse_body, parse}
use Rattle.textform.specs.Text.{counts_text, face_text, texts, vertex_line_text, net_lines, lines_text}
use Rattle.textform.specs.Fits.{Every, NetFits}
use Rattle.textform.specs.Recognition.{Begins}
use Rattle.textform.proofs.Back.{input_back, counts-back, corners_back, under_back, face_back, head_back}
use Rattle.textform.proofs.Lines.{rows_length}

-- a bad line has a number above k
abbrev pub Beyond : {A : Type 0} → ℕ → Parsed A → Type 0
Beyond k (parsed v l) = Unit {0}
Beyond k (bad_line p) = k < p

module _ {A : Type 0} where
  beyond_less : (j k : ℕ) (q : Parsed A) → j ≤ k → Beyond k q → Beyond j q
  beyond_less j k (parsed v l) h b = tt
  beyond_less j k (bad_line p) h b = omega arith

  beyond_next : {B : Type 0} (k : ℕ) (q : Parsed A) (f : A → List ℕ → Parsed B) → Beyond k q → ((v : A) (l : List ℕ) → Beyond k (f v l)) → Beyond k (next q f)
  beyond_next k (parsed v l) f h more = more v l
  beyond_next k (bad_line p) f h more = h

  beyond_line : (k n : ℕ) (r : Read A) → k < n → Beyond k (line n r)
  beyond_line k n (read_as v l) h = tt
  beyond_line k n bad h = h

  beyond_lines : (k n count : ℕ) (w : Rows A) → k < n + length w.values → Beyond k (lines n count w)
  beyond_lines k n count w h = go (eqb (length w.values) count)
    where
      go : (t : Bool) → Beyond k (cond t (parsed w.values w.rest) (bad_line (n + length w.values)))
      go true = tt
      go false = h

  beyond_ended : (k n : ℕ) (v : A) (l : List ℕ) → k < n → Beyond k (ended n v l)
  beyond_ended k n v [] h = tt
  beyond_ended k n v (b ∷ l) h = h

-- ---- what the parser does after each line
abbrev pub after_counts : Bool → TextCounts → List ℕ → Parsed Head
after_counts r n l = next (line 3 (read_columns l)) (λ c m. parsed (record { rule = r; counts = n; marks = has_mark c }) m)

abbrev pub after_input : Bool → List ℕ → Parsed Head
after_input r l = next (line 2 (read_counts l)) (after_counts r)

module _ (h : Head) (vs : List Vertex) where
  abbrev pub after_faces : List Face → List ℕ → Parsed TextNet
  after_faces fs l = ended (5 + h.counts.vertices + h.counts.faces) (record { rule = h.rule; counts = h.counts; vertices = vs; faces = fs }) l

  abbrev pub after_names : Unit {0} → List ℕ → Parsed TextNet
  after_names u l = next (lines (5 + h.counts.vertices) h.counts.faces (rows read_face h.counts.faces l)) after_faces

  abbrev pub after_vertices : List ℕ → Parsed TextNet
  after_vertices l = next (line (4 + h.counts.vertices) (read_corner_names l)) after_names

-- ---- wherever it stops, the lines that were read are good ones
module _ (r : Bool) where
  counts-beyond : (n : TextCounts) (l : List ℕ) → Beyond 2 (after_counts r n l)
  counts-beyond n l = beyond_next 2 (line 3 (read_columns l)) _ (beyond_line 2 3 (read_columns l) (omega arith)) (λ c m. tt)

  input_beyond : (l : List ℕ) → Beyond 1 (after_input r l)
  input_beyond l = beyond_next 1 (line 2 (read_counts l)) _ (beyond_line 1 2 (read_counts l) (omega arith)) (λ n m. beyond_less 1 2 (after_counts r n m) (omega arith) (counts-beyond n m))

head_beyond : (l : List ℕ) → Beyond 0 (parse_head l)
unfolding parse_head
head_beyond l = beyond_next 0 (line 1 (read_input l)) after_input (beyond_line 0 1 (read_input l) (omega arith)) (λ r m. beyond_less 0 1 (after_input r m) (omega arith) (input_beyond r m))

module _ (h : Head) where
  names_beyond : (vs : List Vertex) (l : List ℕ) (i : ℕ) → i ≤ length (rows read_face h.counts.faces l).values → Beyond (4 + h.counts.vertices + i) (after_names h vs tt l)
  names_beyond vs l i k =
      let v = h.counts.vertices in
      let f = h.counts.faces in
      let few = rows_length read_face f l in
      beyond_next (4 + v + i) (lines (5 + v) f (rows read_face f l)) (after_faces h vs) (beyond_lines (4 + v + i) (5 + v) f (rows read_face f l) (omega arith)) (λ fs m. beyond_ended (4 + v + i) (5 + v + f) _ m (omega arith))

  vertices_beyond : (vs : List Vertex) (l : List ℕ) → Beyond (3 + h.counts.vertices) (after_vertices h vs l)
  vertices_beyond vs l =
      let v = h.counts.vertices in
      beyond_next (3 + v) (line (4 + v) (read_corner_names l)) (after_names h vs) (beyond_line (3 + v) (4 + v) (read_corner_names l) (omega arith))
      (λ u m. beyond_less (3 + v) (4 + v + 0) (after_names h vs tt m) (omega arith) (names_beyond vs m 0 (omega arith)))

  body_beyond : (l : List ℕ) (j : ℕ) → j ≤ length (rows (read_vertex h.marks) h.counts.vertices l).values → Beyond (3 + j) (parse_body h l)
  unfolding parse_body
  body_beyond l j k =
      let v = h.counts.vertices in
      let few = rows_length (read_vertex h.marks) v l in
      beyond_next (3 + j) (lines 4 v (rows (read_vertex h.marks) v l)) (after_vertices h) (beyond_lines (3 + j) 4 v (rows (read_vertex h.marks) v l) (omega arith))
      (λ vs m. beyond_less (3 + j) (3 + v) (after_vertices h vs m) (omega arith) (vertices_beyond vs m))

-- ---- the first j of the lines of vs and of those after them: all j are read, or all of vs and then the others are left
module _ {A : Type 0} {P : A → Type 0} (read : List ℕ → Read A) (text : A → List ℕ) (back : (v : A) → P v → (rest : List ℕ) → read (text v ++ rest) ≡ read_as v rest) (tail : List (List ℕ)) (rest : List ℕ) where
  abbrev first : List A → ℕ → List ℕ
  first vs j = lines_text (take j (map text vs ++ tail)) ++ rest

  abbrev Reached : List A → (count j : ℕ) → Type 0
  Reached vs count j = (j ≤ length (rows read count (first vs j)).values) ⊎ ((count ≤ j) × (rows read count (first vs j) ≡ record { values = vs; rest = lines_text (take (j - count) tail) ++ rest }))

  reached : (vs : List A) → Every P vs → (j : ℕ) → Reached vs (length vs) j
  unfolding rows texts Every
  reached [] h j = let e : j - 0 ≡ j = omega arith in inr (omega arith, rw e refl)
  reached (v ∷ vs) h zero = inl (omega arith)
  reached (v ∷ vs) h (suc j) = go (reached vs h.1 j)
    where
      one : rows read (suc (length vs)) (first (v ∷ vs) (suc j)) ≡ one_more v (rows read (length vs) (first vs j))
      one = rw (append_assoc (text v) (lines_text (take j (map text vs ++ tail))) rest, back v h.0 (first vs j))

      go : Reached vs (length vs) j → Reached (v ∷ vs) (suc (length vs)) (suc j)
      go (inl k) = inl (rw one (omega arith))
      go (inr k) = let l = k.0 in let e : suc j - suc (length vs) ≡ j - length vs = omega arith in inr (omega arith, rw (one, k.1, e) refl)

  reached_at : (vs : List A) → Every P vs → (count : ℕ) → length vs ≡ count → (j : ℕ) → Reached vs count j
  reached_at vs h count e j = subst (λ (n : ℕ). Reached vs n j) e (reached vs h j)

-- ---- the lines of a net that fits
module _ (c : Columns) (n : TextNet) (h : NetFits c n) (rest : List ℕ) where
  abbrev head : Head
  head = record { rule = n.rule; counts = n.counts; marks = has_mark c }

  faces_reached : (i : ℕ) → i ≤ n.counts.faces → i ≤ length (rows read_face n.counts.faces (lines_text (take i (map face_text n.faces)) ++ rest)).values
  faces_reached i k =
      let e = append-nil (map face_text n.faces) in
      subst (λ (ls : List (List ℕ)). i ≤ length (rows read_face n.counts.faces (lines_text (take i ls) ++ rest)).values) e (go (reached_at read_face face_text face_back [] rest n.faces h.faces n.counts.faces h.face_count i))
    where
      go : Reached read_face face_text face_back [] rest n.faces n.counts.faces i → i ≤ length (rows read_face n.counts.faces (lines_text (take i (map face_text n.faces ++ [])) ++ rest)).values
      go (inl d) = d
      go (inr d) = rw d.1 (let e = h.face_count in omega arith)

  vertices_reached : (i : ℕ) → i ≤ 1 + n.counts.faces → Beyond (3 + n.counts.vertices + i) (after_vertices head n.vertices (lines_text (take i (corner_names tt ∷ map face_text n.faces)) ++ rest))
  unfolding texts
  vertices_reached zero k = beyond_less (3 + n.counts.vertices + 0) (3 + n.counts.vertices) (after_vertices head n.vertices rest) (omega arith) (vertices_beyond head n.vertices rest)
  vertices_reached (suc i) k =
      let l = lines_text (take i (map face_text n.faces)) ++ rest in
      rw (append_assoc (corner_names tt) (lines_text (take i (map face_text n.faces))) rest, corners_back l)
      (beyond_less (3 + n.counts.vertices + suc i) (4 + n.counts.vertices + i) (after_names head n.vertices tt l) (omega arith) (names_beyond head n.vertices l i (faces_reached i (omega arith))))

  abbrev body : List (List ℕ)
  body = map (vertex_line_text c) n.vertices ++ (corner_names tt ∷ map face_text n.faces)

  body_reached : (j : ℕ) → j ≤ 1 + n.counts.vertices + n.counts.faces → Beyond (3 + j) (parse_body head (lines_text (take j body) ++ rest))
  unfolding parse_body
  body_reached j k = go (reached_at (read_vertex (has_mark c)) (vertex_line_text c) (under_back c) (corner_names tt ∷ map face_text n.faces) rest n.vertices h.vertices n.counts.vertices h.vertex_count j)
    where
      go : Reached (read_vertex (has_mark c)) (vertex_line_text c) (under_back c) (corner_names tt ∷ map face_text n.faces) rest n.vertices n.counts.vertices j → Beyond (3 + j) (parse_body head (lines_text (take j body) ++ rest))
      go (inl d) = body_beyond head (lines_text (take j body) ++ rest) j d
      go (inr d) =
          let few = d.0 in
          let e : 3 + n.counts.vertices + (j - n.counts.vertices) ≡ 3 + j = omega arith in
          rw (d.1, eq-eqb (length n.vertices) n.counts.vertices h.vertex_count, ← e) (vertices_reached (j - n.counts.vertices) (omega arith))

  -- what is left after the first lines
  any_body : (k : ℕ) (q : Parsed Head) → k ≤ 3 → Beyond k q → Beyond k (next q parse_body)
  any_body k q few b = beyond_next k q parse_body b (λ h l. beyond_less k (3 + 0) (parse_body h l) (omega arith) (body_beyond h l 0 (omega arith)))

  body_length : length body ≡ 1 + n.counts.vertices + n.counts.faces
  body_length =
      let a = length-append (map (vertex_line_text c) n.vertices) (corner_names tt ∷ map face_text n.faces) in
      let b = length-map n.vertices (vertex_line_text c) in
      let d = length-map n.faces face_text in
      let e = h.vertex_count in
      let f = h.face_count in
      omega arith

  lines_reached : (k : ℕ) → k ≤ length (net_lines c n) → Beyond k (parse (lines_text (take k (net_lines c n)) ++ rest))
  unfolding parse parse_head net_lines texts
  lines_reached zero f = any_body 0 (parse_head rest) (omega arith) (head_beyond rest)
  lines_reached (suc zero) f =
      rw (append_assoc (input_names n.rule) [] rest, input_back n.rule rest) (any_body 1 (after_input n.rule rest) (omega arith) (input_beyond n.rule rest))
  lines_reached (suc (suc zero)) f =
      let l = counts_text n.counts ++ rest in
      rw (append_assoc (input_names n.rule) (counts_text n.counts ++ []) rest, append_assoc (counts_text n.counts) [] rest, input_back n.rule l, counts-back n.counts rest h.counts)
      (any_body 2 (after_counts n.rule n.counts rest) (omega arith) (counts-beyond n.rule n.counts rest))
  lines_reached (suc (suc (suc j))) f =
      let m = lines_text (take j body) in
      let b = body_length in
      rw (
        append_assoc (input_names n.rule) (counts_text n.counts ++ (column_names c ++ m)) rest,
        append_assoc (counts_text n.counts) (column_names c ++ m) rest,
        append_assoc (column_names c) m rest,
        head_back c n.rule n.counts (m ++ rest) h.counts,
      ) (beyond_less (suc (suc (suc j))) (3 + j) (parse_body head (m ++ rest)) (omega arith) (body_reached j (omega arith)))

pub reaches : (l : List ℕ) (k : ℕ) → Begins l k → Beyond k (parse l)
reaches l k b = subst (λ (t : List ℕ). Beyond k (parse t)) (sym b.text) (lines_reached b.columns b.net b.fits b.rest k b.few)
