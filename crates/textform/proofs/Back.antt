-- Reading the text that a net is written as gives the net back. Assumes nothing.
use mathlib.Core.Path.{◌≡◌, refl, sym, ap, ◌∙◌}
use mathlib.Core.Bool.{Bool, true, false}
use mathlib.Core.List.{List, [], ◌∷◌, ◌++◌, map, append_assoc, append-nil}
use Prim.Native.Nat.{ℕ, ◌≤◌}
use lib.IntN.{ℤ}
use lib.Signed.{mag}
use lib.ListN.{length}
use borrow.Author.Tests.{eq-eqb}
use Rattle.decimalform.specs.Decimal.{Read, read_as, is_digit, natural_text, integer_text, largest_number}
use Rattle.decimalform.proofs.Back.{natural-back, integer_back}
use Rattle.textform.specs.Bytes.{bytes}
use Rattle.textform.specs.Form.{TextCounts, Vertex, Face, TextNet, input_names, Columns, with_corner, without_corner, column_names, has_mark, corner_names, read_names, read_input, read_columns, read_corner_names, ended_by, coordinate, natural, read_counts, read_vertex, read_face, rows, parsed, parse_head, parse_body, parse}
use Rattle.textform.specs.Text.{counts_text, numbers_text, vertex_text, point_text, face_text, texts, vertex_line_text, net_lines, lines_text, net_text}
use Rattle.textform.specs.Fits.{CountsFit, VertexFits, PointFits, FaceFits, Every, FitsUnder, NetFits}

-- ---- a number and the byte after it
pub ends : {A : Type 0} (e : ℕ) (v : A) (rest : List ℕ) → ended_by e (read_as v (e ∷ rest)) ≡ read_as v rest
ends e v rest = rw (eq-eqb e e refl)

module _ (e : ℕ) (d : is_digit e ≡ false) where
  pub natural-field : (limit n : ℕ) (rest : List ℕ) → n ≤ limit → natural limit e (natural_text n ++ (e ∷ rest)) ≡ read_as n rest
  unfolding natural
  natural-field limit n rest h = ap (ended_by e) (natural-back limit n (e ∷ rest) h (record { none = d })) ∙ ends e n rest

  integer_field : (z : ℤ) (rest : List ℕ) → mag z ≤ largest_number → coordinate e (integer_text z ++ (e ∷ rest)) ≡ read_as z rest
  unfolding coordinate
  integer_field z rest h = ap (ended_by e) (integer_back z (e ∷ rest) h (record { none = d })) ∙ ends e z rest

-- ---- lines
pub input_back : (r : Bool) (rest : List ℕ) → read_input (input_names r ++ rest) ≡ read_as r rest
unfolding read_names bytes
input_back false rest = refl
input_back true rest = refl

columns_back : (c : Columns) (rest : List ℕ) → read_columns (column_names c ++ rest) ≡ read_as c rest
unfolding read_names bytes
columns_back with_corner rest = refl
columns_back without_corner rest = refl

pub corners_back : (rest : List ℕ) → read_corner_names (corner_names tt ++ rest) ≡ read_as tt rest
unfolding read_names bytes
corners_back rest = refl

pub counts-back : (n : TextCounts) (rest : List ℕ) → CountsFit n → read_counts (counts_text n ++ rest) ≡ read_as n rest
unfolding read_counts counts_text
counts-back n rest h =
    simp append_assoc
    (rw (natural-field 32 refl largest_number n.vertices _ h.vertices, natural-field 32 refl largest_number n.faces _ h.faces, natural-field 10 refl largest_number n.rounds rest h.rounds))

vertex_back : (v : Vertex) → VertexFits v → (rest : List ℕ) → read_vertex true (vertex_text v ++ rest) ≡ read_as v rest
unfolding read_vertex vertex_text numbers_text
vertex_back v h rest =
    simp append_assoc
    (rw (integer_field 32 refl v.x _ h.x, integer_field 32 refl v.y _ h.y, integer_field 32 refl v.z _ h.z, natural-field 10 refl 255 v.mark rest h.mark))

pub point_back : (v : Vertex) → PointFits v → (rest : List ℕ) → read_vertex false (point_text v ++ rest) ≡ read_as v rest
unfolding read_vertex point_text
point_back v h rest =
    let f = h.fits in
    simp append_assoc (rw (integer_field 32 refl v.x _ f.x, integer_field 32 refl v.y _ f.y, integer_field 10 refl v.z rest f.z) (λ i. read_as (record { x = v.x; y = v.y; z = v.z; mark = sym h.unmarked i }) rest))

pub face_back : (f : Face) → FaceFits f → (rest : List ℕ) → read_face (face_text f ++ rest) ≡ read_as f rest
unfolding read_face face_text
face_back f h rest =
    simp append_assoc
    (rw (natural-field 32 refl largest_number f.a _ h.a, natural-field 32 refl largest_number f.b _ h.b, natural-field 32 refl largest_number f.c _ h.c, natural-field 10 refl largest_number f.d rest h.d))

-- ---- lines after each other
pub joined-map : {A : Type 0} (text : A → List ℕ) (vs : List A) → lines_text (map text vs) ≡ texts text vs
unfolding texts
joined-map text [] = refl
joined-map text (v ∷ vs) = ap (λ (l : List ℕ). text v ++ l) (joined-map text vs)

pub joined-append : (ls ms : List (List ℕ)) → lines_text (ls ++ ms) ≡ lines_text ls ++ lines_text ms
unfolding texts
joined-append [] ms = refl
joined-append (l ∷ ls) ms = ap (λ (k : List ℕ). l ++ k) (joined-append ls ms) ∙ sym (append_assoc l (lines_text ls) (lines_text ms))

rows_back : {A : Type 0} {P : A → Type 0} (read : List ℕ → Read A) (text : A → List ℕ) → ((v : A) → P v → (rest : List ℕ) → read (text v ++ rest) ≡ read_as v rest)
    → (vs : List A) (rest : List ℕ) → Every P vs → rows read (length vs) (texts text vs ++ rest) ≡ record { values = vs; rest = rest }
unfolding rows texts Every
rows_back read text back [] rest h = refl
rows_back read text back (v ∷ vs) rest h =
    rw (append_assoc (text v) (texts text vs) rest, back v h.0 (texts text vs ++ rest), rows_back read text back vs rest h.1)

-- ---- the whole text, with the columns c
module _ (c : Columns) where
  pub under_back : (v : Vertex) → FitsUnder c v → (rest : List ℕ) → read_vertex (has_mark c) (vertex_line_text c v ++ rest) ≡ read_as v rest
  under_back = go c
    where
      go : (c : Columns) (v : Vertex) → FitsUnder c v → (rest : List ℕ) → read_vertex (has_mark c) (vertex_line_text c v ++ rest) ≡ read_as v rest
      go with_corner v h rest = vertex_back v h rest
      go without_corner v h rest = point_back v h rest

  pub head_back : (r : Bool) (n : TextCounts) (rest : List ℕ) → CountsFit n
      → parse_head (input_names r ++ (counts_text n ++ (column_names c ++ rest))) ≡ parsed (record { rule = r; counts = n; marks = has_mark c }) rest
  unfolding parse_head
  head_back r n rest h = rw (input_back r (counts_text n ++ (column_names c ++ rest)), counts-back n (column_names c ++ rest) h, columns_back c rest)

  module _ (n : TextNet) (h : NetFits c n) where
    body_back : parse_body (record { rule = n.rule; counts = n.counts; marks = has_mark c }) (texts (vertex_line_text c) n.vertices ++ (corner_names tt ++ (texts face_text n.faces ++ []))) ≡ parsed n []
    unfolding parse_body
    body_back =
        let k = corner_names tt ++ (texts face_text n.faces ++ []) in
        let a = rows_back (read_vertex (has_mark c)) (vertex_line_text c) under_back n.vertices k h.vertices in
        let b = rows_back read_face face_text face_back n.faces [] h.faces in
        rw (
          ← h.vertex_count,
          ← h.face_count,
          a,
          eq-eqb (length n.vertices) (length n.vertices) refl,
          corners_back (texts face_text n.faces ++ []),
          b,
          eq-eqb (length n.faces) (length n.faces) refl,
          h.vertex_count,
          h.face_count,
        )

    -- Reading what is written for a net gives that net back.
    pub net-back : parse (net_text c n) ≡ parsed n []
    unfolding parse net_text net_lines texts
    net-back =
        let f = append-nil (texts face_text n.faces) in
        rw (
          joined-append (map (vertex_line_text c) n.vertices) (corner_names tt ∷ map face_text n.faces),
          joined-map (vertex_line_text c) n.vertices,
          joined-map face_text n.faces,
          ← f,
          head_back n.rule n.counts (texts (vertex_line_text c) n.vertices ++ (corner_names tt ++ (texts face_text n.faces ++ []))) h.counts,
        ) body_back
