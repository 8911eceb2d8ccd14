-- The parser accepts the texts of nets that fit and no others, and its place is the first bad line. Assumes nothing.
use mathlib.Core.Path.{◌≡◌, refl, sym, ap, ◌∙◌, subst}
use mathlib.Core.Bool.{Bool, true, false, cond}
use mathlib.Core.List.{List, [], ◌∷◌, ◌++◌, map, append_assoc, append-nil}
use Prim.Native.Nat.{ℕ, zero, suc, ◌+◌, ◌-◌, ◌≤◌, ◌<◌}
use native.Mathlib.Omega.{arith}
use lib.Dec.{eqb}
use lib.IntN.{pos}
use lib.ListN.{length, take, drop, replicate, length-append, length-map, length-replicate, take-append-drop}
use lib.Seq.{take-append_seam, take-take}
use borrow.Author.Tests.{eqb-true}
use Rattle.decimalform.specs.Decimal.{Read, read_as, bad}
use Rattle.textform.specs.Form.{TextCounts, Vertex, Face, TextNet, Columns, with_corner, without_corner, Head, has_mark, input_names, column_names, corner_names, read_input, read_columns, read_corner_names, read_counts, read_vertex, read_face, Rows, rows, Parsed, parsed, bad_line, next, line, lines, ended, parse_head, parse_body, parse}
use Rattle.textform.specs.Text.{counts_text, face_text, texts, vertex_line_text, net_lines, lines_text, net_text}
use Rattle.textform.specs.Fits.{CountsFit, FaceFits, Every, FitsUnder, NetFits}
use Rattle.textform.specs.Recognition.{WrittenAs, Begins, FirstBadLine, RecognizesText}
use Rattle.textform.proofs.Back.{joined-map, joined-append, net-back}
use Rattle.textform.proofs.Found.{LineFound, counts_found, vertex_found, point_found, face_found, names_found, rows_found}
use Rattle.textform.proofs.Beyond.{Beyond, after_counts, after_input, after_faces, after_names, after_vertices, reaches}

-- ---- fewer lines of a text
begins_fewer : (l : List ℕ) (j k : ℕ) → j ≤ k → Begins l k → Begins l j
begins_fewer l j k h b =
    let ls = net_lines b.columns b.net in
    let t = take k ls in
    let few = b.few in
    let e : lines_text t ≡ lines_text (take j ls) ++ lines_text (drop j t) =
    ap lines_text (sym (take-append-drop j t)) ∙ joined-append (take j t) (drop j t) ∙ ap (λ (m : List (List ℕ)). lines_text m ++ lines_text (drop j t)) (take-take j k ls h) in
    record {
      columns = b.columns;
      net = b.net;
      fits = b.fits;
      few = omega arith;
      rest = lines_text (drop j t) ++ b.rest;
      text = b.text ∙ ap (λ (m : List ℕ). m ++ b.rest) e ∙ append_assoc (lines_text (take j ls)) (lines_text (drop j t)) b.rest;
    }

-- the lines of a net that stand before others
begins_with : (c : Columns) (n : TextNet) → NetFits c n → (before after : List (List ℕ)) → net_lines c n ≡ before ++ after → (l rest : List ℕ) → l ≡ lines_text before ++ rest → Begins l (length before)
begins_with c n h before after e l rest t = record {
  columns = c;
  net = n;
  fits = h;
  few = let a = ap length e ∙ length-append before after in omega arith;
  rest = rest;
  text = t ∙ ap (λ (m : List (List ℕ)). lines_text m ++ rest) (sym (ap (take (length before)) e ∙ take-append_seam before after));
}

-- ---- lines that are there, with others that could follow
abbrev zero_vertex : Vertex
zero_vertex = record { x = pos 0; y = pos 0; z = pos 0; mark = 0 }

abbrev zero_face : Face
zero_face = record { a = 0; b = 0; c = 0; d = 0 }

zero_fits : (c : Columns) → FitsUnder c zero_vertex
zero_fits with_corner = record { x = omega arith; y = omega arith; z = omega arith; mark = omega arith }
zero_fits without_corner = record { fits = record { x = omega arith; y = omega arith; z = omega arith; mark = omega arith }; unmarked = refl }

module _ {A : Type 0} (P : A → Type 0) where
  each-replicate : (n : ℕ) (v : A) → P v → Every P (replicate n v)
  unfolding Every
  each-replicate zero v h = tt
  each-replicate (suc n) v h = (h, each-replicate n v h)

  each_append : (vs ws : List A) → Every P vs → Every P ws → Every P (vs ++ ws)
  unfolding Every
  each_append [] ws h k = k
  each_append (v ∷ vs) ws h k = (h.0, each_append vs ws h.1 k)

map-append : {A B : Type 0} (f : A → B) (vs ws : List A) → map f (vs ++ ws) ≡ map f vs ++ map f ws
map-append f [] ws = refl
map-append {B = B} f (v ∷ vs) ws = ap (λ (l : List B). f v ∷ l) (map-append f vs ws)

-- the list with further elements v, n in all
abbrev filled_up : {A : Type 0} → ℕ → A → List A → List A
filled_up n v vs = vs ++ replicate (n - length vs) v

length-filled : {A : Type 0} (n : ℕ) (v : A) (vs : List A) → length vs ≤ n → length (filled_up n v vs) ≡ n
length-filled n v vs h = let a = length-append vs (replicate (n - length vs) v) in let b = length-replicate (n - length vs) v in omega arith

module _ (c : Columns) (r : Bool) (n : TextCounts) (few : CountsFit n) (vs : List Vertex) (fit : Every (FitsUnder c) vs) (v : length vs ≤ n.vertices) (fs : List Face) (fit' : Every FaceFits fs) (f : length fs ≤ n.faces) where
  abbrev whole : TextNet
  whole = record { rule = r; counts = n; vertices = filled_up n.vertices zero_vertex vs; faces = filled_up n.faces zero_face fs }

  whole_fits : NetFits c whole
  whole_fits = record {
    counts = few;
    vertex_count = length-filled n.vertices zero_vertex vs v;
    face_count = length-filled n.faces zero_face fs f;
    vertices = each_append (FitsUnder c) vs (replicate (n.vertices - length vs) zero_vertex) fit (each-replicate (FitsUnder c) (n.vertices - length vs) zero_vertex (zero_fits c));
    faces = each_append FaceFits fs (replicate (n.faces - length fs) zero_face) fit' (each-replicate FaceFits (n.faces - length fs) zero_face (record { a = omega arith; b = omega arith; c = omega arith; d = omega arith }));
  }

  module _ (l rest : List ℕ) where
    begins_input : l ≡ input_names r ++ rest → Begins l 1
    unfolding net_lines texts
    begins_input t = begins_with c whole whole_fits (input_names r ∷ []) _ refl l rest (t ∙ sym (append_assoc (input_names r) [] rest))

    begins_counts : l ≡ input_names r ++ (counts_text n ++ rest) → Begins l 2
    unfolding net_lines texts
    begins_counts t = begins_with c whole whole_fits (input_names r ∷ counts_text n ∷ []) _ refl l rest (simp append_assoc t)

    begins_vertices : l ≡ input_names r ++ (counts_text n ++ (column_names c ++ (texts (vertex_line_text c) vs ++ rest))) → Begins l (3 + length vs)
    unfolding net_lines texts
    begins_vertices t =
        let g = vertex_line_text c in
        let zs = replicate (n.vertices - length vs) zero_vertex in
        let ks = corner_names tt ∷ map face_text (filled_up n.faces zero_face fs) in
        let e : map g (vs ++ zs) ++ ks ≡ map g vs ++ (map g zs ++ ks) = ap (λ (m : List (List ℕ)). m ++ ks) (map-append g vs zs) ∙ append_assoc (map g vs) (map g zs) ks in
        let d : suc (suc (suc (length (map g vs)))) ≡ 3 + length vs = let a = length-map vs g in omega arith in
        subst (Begins l) d
        (begins_with c whole whole_fits (input_names r ∷ counts_text n ∷ column_names c ∷ map g vs) (map g zs ++ ks) (ap (λ (m : List (List ℕ)). input_names r ∷ counts_text n ∷ column_names c ∷ m) e) l rest
        (rw (joined-map g vs) (simp append_assoc t)))

    begins_faces : length vs ≡ n.vertices → l ≡ input_names r ++ (counts_text n ++ (column_names c ++ (texts (vertex_line_text c) vs ++ (corner_names tt ++ (texts face_text fs ++ rest))))) → Begins l (4 + n.vertices + length fs)
    unfolding net_lines texts
    begins_faces all t =
        let g = vertex_line_text c in
        let zs = replicate (n.faces - length fs) zero_face in
        let o : n.vertices - length vs ≡ 0 = omega arith in
        let ks = corner_names tt ∷ map face_text fs in
        let e : map g (filled_up n.vertices zero_vertex vs) ++ (corner_names tt ∷ map face_text (fs ++ zs)) ≡ (map g vs ++ ks) ++ map face_text zs =
        rw (o, append-nil vs, map-append face_text fs zs) (sym (append_assoc (map g vs) ks (map face_text zs))) in
        let d : suc (suc (suc (length (map g vs ++ ks)))) ≡ 4 + n.vertices + length fs =
        let a = length-map vs g in let b = length-map fs face_text in let c = length-append (map g vs) ks in omega arith in
        subst (Begins l) d
        (begins_with c whole whole_fits (input_names r ∷ counts_text n ∷ column_names c ∷ (map g vs ++ ks)) (map face_text zs) (ap (λ (m : List (List ℕ)). input_names r ∷ counts_text n ∷ column_names c ∷ m) e) l rest
        (rw (joined-append (map g vs) ks, joined-map g vs, joined-map face_text fs) (simp append_assoc t)))

-- ---- what the parser's answer shows of a text: it is that of the net, or the lines before the bad one are those of a net
abbrev Shown : List ℕ → Parsed TextNet → Type 0
Shown l (parsed n m) = WrittenAs l n
Shown l (bad_line p) = (k : ℕ) → k < p → Begins l k

module _ (l : List ℕ) (n p : ℕ) (next_one : p ≡ suc n) (b : Begins l n) where
  before_bad : (k : ℕ) → k < p → Begins l k
  before_bad k h = begins_fewer l k n (omega arith) b

  shown_line : {A : Type 0} (r : Read A) (f : A → List ℕ → Parsed TextNet) → ((v : A) (m : List ℕ) → r ≡ read_as v m → Shown l (f v m)) → Shown l (next (line p r) f)
  shown_line (read_as v m) f more = more v m refl
  shown_line bad f more = before_bad

  shown_then : {A B : Type 0} (r : Read A) (f : A → List ℕ → Parsed B) (g : B → List ℕ → Parsed TextNet) → ((v : A) (m : List ℕ) → r ≡ read_as v m → Shown l (next (f v m) g)) → Shown l (next (next (line p r) f) g)
  shown_then (read_as v m) f g more = more v m refl
  shown_then bad f g more = before_bad

  shown_ended : (v : TextNet) (m : List ℕ) → (m ≡ [] → WrittenAs l v) → Shown l (ended p v m)
  shown_ended v [] more = more refl
  shown_ended v (x ∷ m) more = before_bad

shown_lines : {A : Type 0} (l : List ℕ) (n p : ℕ) → p ≡ suc n → (count : ℕ) (w : Rows A) (f : List A → List ℕ → Parsed TextNet) → Begins l (n + length w.values)
    → (length w.values ≡ count → Shown l (f w.values w.rest)) → Shown l (next (lines p count w) f)
shown_lines l n p e count w f b more = go (eqb (length w.values) count) refl
  where
    go : (t : Bool) → eqb (length w.values) count ≡ t → Shown l (next (cond t (parsed w.values w.rest) (bad_line (p + length w.values))) f)
    go true d = more (eqb-true (length w.values) count d)
    go false d = before_bad l (n + length w.values) (p + length w.values) (omega arith) b

-- ---- the whole text
under_found : (c : Columns) (l : List ℕ) (v : Vertex) (m : List ℕ) → read_vertex (has_mark c) l ≡ read_as v m → LineFound (FitsUnder c) (vertex_line_text c) l v m
under_found with_corner l v m p = vertex_found l v m p
under_found without_corner l v m p = point_found l v m p

module _ (l : List ℕ) where
  module _ (c : Columns) (r : Bool) (n : TextCounts) (few : CountsFit n) (vs : List Vertex) (fit : Every (FitsUnder c) vs) (fs : List Face) (fit' : Every FaceFits fs) where
    all_written : length vs ≡ n.vertices → length fs ≡ n.faces → l ≡ input_names r ++ (counts_text n ++ (column_names c ++ (texts (vertex_line_text c) vs ++ (corner_names tt ++ (texts face_text fs ++ [])))))
        → WrittenAs l (record { rule = r; counts = n; vertices = vs; faces = fs })
    unfolding net_text net_lines texts
    all_written a b t = record {
      columns = c;
      fits = record { counts = few; vertex_count = a; face_count = b; vertices = fit; faces = fit' };
      text = rw (joined-append (map (vertex_line_text c) vs) (corner_names tt ∷ map face_text fs), joined-map (vertex_line_text c) vs, joined-map face_text fs) (rw (append-nil (texts face_text fs)) at t);
    }

  body_shown : (c : Columns) (r : Bool) (n : TextCounts) → CountsFit n → (m : List ℕ) → l ≡ input_names r ++ (counts_text n ++ (column_names c ++ m)) → Shown l (parse_body (record { rule = r; counts = n; marks = has_mark c }) m)
  unfolding parse_body Every texts
  body_shown c r n few m t =
      let h : Head = record { rule = r; counts = n; marks = has_mark c } in
      let w = rows (read_vertex (has_mark c)) n.vertices m in
      let x = rows_found (read_vertex (has_mark c)) (under_found c) n.vertices m in
      let t₁ = t ∙ ap (λ (k : List ℕ). input_names r ++ (counts_text n ++ (column_names c ++ k))) x.text in
      let b = begins_vertices c r n few w.values x.fit x.few [] tt (omega arith) l w.rest t₁ in
      shown_lines l 3 4 refl n.vertices w (after_vertices h) b (λ all.
      let b₁ = subst (λ (k : ℕ). Begins l (3 + k)) all b in
      shown_line l (3 + n.vertices) (4 + n.vertices) (omega arith) b₁ (read_corner_names w.rest) (after_names h w.values) (λ u m₁ e.
      let y = rows_found read_face face_found n.faces m₁ in
      let v = rows read_face n.faces m₁ in
      let t₂ = t₁ ∙ ap (λ (k : List ℕ). input_names r ++ (counts_text n ++ (column_names c ++ (texts (vertex_line_text c) w.values ++ k)))) (names_found corner_names (tt ∷ []) w.rest u m₁ e ∙ ap (λ (k : List ℕ). corner_names tt ++ k) y.text) in
      let b₂ = begins_faces c r n few w.values x.fit x.few v.values y.fit y.few l v.rest all t₂ in
      shown_lines l (4 + n.vertices) (5 + n.vertices) (omega arith) n.faces v (after_faces h w.values) b₂ (λ all₂.
      shown_ended l (4 + n.vertices + n.faces) (5 + n.vertices + n.faces) (omega arith) (subst (λ (k : ℕ). Begins l (4 + n.vertices + k)) all₂ b₂) _ v.rest (λ none.
      all_written c r n few w.values x.fit v.values y.fit all all₂
      (t₂ ∙ ap (λ (k : List ℕ). input_names r ++ (counts_text n ++ (column_names c ++ (texts (vertex_line_text c) w.values ++ (corner_names tt ++ (texts face_text v.values ++ k)))))) none)))))

  shown : Shown l (parse l)
  unfolding parse parse_head Every net_lines texts
  shown =
      let none : TextCounts = record { vertices = 0; faces = 0; rounds = 0 } in
      let few : CountsFit none = record { vertices = omega arith; faces = omega arith; rounds = omega arith } in
      let b = begins_with with_corner _ (whole_fits with_corner false none few [] tt (omega arith) [] tt (omega arith)) [] _ refl l l refl in
      shown_then l 0 1 refl b (read_input l) after_input parse_body (λ r l₁ e₁.
      let t₁ = names_found input_names (false ∷ true ∷ []) l r l₁ e₁ in
      shown_then l 1 2 refl (begins_input with_corner r none few [] tt (omega arith) [] tt (omega arith) l l₁ t₁) (read_counts l₁) (after_counts r) parse_body (λ n l₂ e₂.
      let x = counts_found l₁ n l₂ e₂ in
      let t₂ = t₁ ∙ ap (λ (k : List ℕ). input_names r ++ k) x.text in
      shown_then l 2 3 refl (begins_counts with_corner r n x.fits [] tt (omega arith) [] tt (omega arith) l l₂ t₂) (read_columns l₂) (λ c m. parsed (record { rule = r; counts = n; marks = has_mark c }) m) parse_body (λ c l₃ e₃.
      body_shown c r n x.fits l₃ (t₂ ∙ ap (λ (k : List ℕ). input_names r ++ (counts_text n ++ k)) (names_found column_names (with_corner ∷ without_corner ∷ []) l₂ c l₃ e₃)))))

  accepted : (n : TextNet) (m : List ℕ) → parse l ≡ parsed n m → WrittenAs l n
  accepted n m e = subst (Shown l) e shown

  refused : (p : ℕ) → parse l ≡ bad_line p → FirstBadLine l p
  refused p e = record {
    unwritten = λ n w. let a : parse l ≡ parsed n [] = ap parse w.text ∙ net-back w.columns n w.fits in let z : ◌≡◌ {A = ℕ} 0 1 = cc in omega arith;
    before = subst (Shown l) e shown;
    with = λ b. let h : p < p = subst (Beyond p) e (reaches l p b) in omega arith;
  }

pub text_form : RecognizesText
text_form = record { written = net-back; accepted = accepted; refused = refused }
