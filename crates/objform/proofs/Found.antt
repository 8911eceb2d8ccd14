-- What is read of a text stands there as it is written: the form is what its lines write. Assumes nothing.
use mathlib.Core.Path.{◌≡◌, refl, sym, ap, ◌∙◌, subst}
use mathlib.Core.Bool.{Bool, true, false, cond, ◌||◌}
use mathlib.Core.List.{List, [], ◌∷◌, ◌++◌, append_assoc, append-nil}
use Prim.Native.Nat.{ℕ, zero, suc, ◌+◌, ◌≤◌, ◌<◌}
use native.Mathlib.Omega.{arith}
use lib.Dec.{eqb}
use lib.ListN.{length, drop, length-append}
use borrow.Author.Tests.{eqb-true}
use Rattle.decimalform.specs.Decimal.{Read, read_as, bad, natural_text, read_natural, largest_number}
use Rattle.decimalform.proofs.Reading.{natural_at_most}
use Rattle.decimalform.proofs.Found.{natural_found}
use Rattle.textform.specs.Bytes.{bytes}
use Rattle.textform.specs.Form.{Vertex, Face, TextNet, starts_with, natural, read_vertex, Rows, rows, rows_after, parsed, bad_line, next, line, ended}
use Rattle.textform.specs.Text.{texts}
use Rattle.textform.specs.Fits.{Every}
use Rattle.textform.proofs.Lines.{natural_limit}
use Rattle.textform.proofs.Found.{starts_found, ended_found, then_found, field_found, point_found}
use Rattle.objform.specs.Form.{Item, vertex, face, comment, mapped, skip_to, skip_part, named, read_corner, read_corners, read_comment, read_item, read_rounds, vertices_in, faces_in, net_of, items, parse_items, parse_obj}
use Rattle.objform.specs.Text.{Part, none, slash, Corner, TextLine, vertex_line, face_line, comment_line, part_text, corner_text, line_text, rounds_text, obj_text, Without, PartFits, CornerFits, LineFits, item_of, items_of, WrittenBy, NoRounds, NoLine, FirstBad, first_line, later_line, Recognizes}
use Rattle.objform.proofs.Net.{item_none}
use Rattle.objform.proofs.Back.{rounds_back, line_back, line_some, length-items}

-- ---- bytes that were skipped
record Skipped (stop e : ℕ) (l m : List ℕ) : Type 0 where
  bytes : List ℕ
  without : Without stop bytes
  text : l ≡ bytes ++ (e ∷ m)

skip_found : (stop e : ℕ) (l m : List ℕ) → skip_to stop l ≡ e ∷ m → Skipped stop e l m
unfolding skip_to Every
skip_found stop e [] m p = let z : ◌≡◌ {A = ℕ} 0 1 = cc in absurd (omega arith)
skip_found stop e (b ∷ l) m p = go (eqb b stop || eqb b 10) refl p (λ q. skip_found stop e l m q)
  where
    go : (t : Bool) → (eqb b stop || eqb b 10) ≡ t → cond t (b ∷ l) (skip_to stop l) ≡ e ∷ m → (skip_to stop l ≡ e ∷ m → Skipped stop e l m) → Skipped stop e (b ∷ l) m
    go true d q more = record { bytes = []; without = tt; text = q }
    go false d q more = let s = more q in record { bytes = b ∷ s.bytes; without = (d, s.without); text = ap (λ (k : List ℕ). b ∷ k) s.text }

record PartFound (e : ℕ) (l m : List ℕ) : Type 0 where
  part : Part
  fits : PartFits part
  text : l ≡ part_text part ++ (e ∷ m)

part_found : (e : ℕ) (l m : List ℕ) → skip_part l ≡ e ∷ m → PartFound e l m
part_found e [] m p = let z : ◌≡◌ {A = ℕ} 0 1 = cc in absurd (omega arith)
part_found e (b ∷ l) m p = go (eqb b 47) refl p
  where
    go : (t : Bool) → eqb b 47 ≡ t → cond t (skip_to 32 l) (b ∷ l) ≡ e ∷ m → PartFound e (b ∷ l) m
    go true d q =
        let s = skip_found 32 e l m q in
        let h : b ≡ 47 = eqb-true b 47 d in
        record { part = slash s.bytes; fits = s.without; text = λ i. h i ∷ s.text i }
    go false d q = record { part = none; fits = tt; text = q }

-- ---- a corner
record NamedFound (q : Read ℕ) (c e : ℕ) (m : List ℕ) : Type 0 where
  rest : List ℕ
  number : q ≡ read_as (suc c) rest
  part : skip_part rest ≡ e ∷ m

named_found : (q : Read ℕ) (c e : ℕ) (m : List ℕ) → named q ≡ read_as c (e ∷ m) → NamedFound q c e m
named_found bad c e m p = let z : ◌≡◌ {A = ℕ} 0 1 = cc in absurd (omega arith)
named_found (read_as zero l) c e m p = let z : ◌≡◌ {A = ℕ} 0 1 = cc in absurd (omega arith)
named_found (read_as (suc x) l) c e m p = let a : x ≡ c = cc in let b : skip_part l ≡ e ∷ m = cc in record { rest = l; number = rw a; part = b }

record CornerFound (e : ℕ) (l : List ℕ) (c : ℕ) (m : List ℕ) : Type 0 where
  corner : Corner
  is : corner.vertex ≡ c
  fits : CornerFits corner
  text : l ≡ corner_text corner e ++ m

corner_found : (e : ℕ) (l : List ℕ) (c : ℕ) (m : List ℕ) → read_corner e l ≡ read_as c m → CornerFound e l c m
unfolding read_corner corner_text
corner_found e l c m p =
    let n = named_found (read_natural largest_number l) c e m (ended_found e (named (read_natural largest_number l)) c m p) in
    let q = part_found e n.rest m n.part in
    record {
      corner = record { vertex = c; part = q.part };
      is = refl;
      fits = record { number = natural_at_most largest_number l (suc c) n.rest n.number; part = q.fits };
      text = simp append_assoc (natural_found largest_number l (suc c) n.rest n.number ∙ ap (λ (k : List ℕ). natural_text (suc c) ++ k) q.text);
    }

-- ---- a line
record LineFound (l : List ℕ) (i : Item) (m : List ℕ) : Type 0 where
  line : TextLine
  fits : LineFits line
  is : item_of line ≡ i
  text : l ≡ line_text line ++ m

four_found : (l : List ℕ) (a b c d : ℕ) (r s t m : List ℕ) → read_corner 32 l ≡ read_as a r → read_corner 32 r ≡ read_as b s → read_corner 32 s ≡ read_as c t → read_corner 10 t ≡ read_as d m
    → LineFound (bytes "f " ++ l) (face (record { a = a; b = b; c = c; d = d })) m
unfolding line_text bytes
four_found l a b c d r s t m p q o n =
    let x = corner_found 32 l a r p in
    let y = corner_found 32 r b s q in
    let z = corner_found 32 s c t o in
    let w = corner_found 10 t d m n in
    record {
      line = face_line x.corner y.corner z.corner w.corner;
      fits = (x.fits, y.fits, z.fits, w.fits);
      is = λ i. face (record { a = x.is i; b = y.is i; c = z.is i; d = w.is i });
      text =
          simp append_assoc
          (ap (λ (k : List ℕ). 102 ∷ 32 ∷ k)
          (x.text ∙ ap (λ (k : List ℕ). corner_text x.corner 32 ++ k) (y.text ∙ ap (λ (k : List ℕ). corner_text y.corner 32 ++ k) (z.text ∙ ap (λ (k : List ℕ). corner_text z.corner 32 ++ k) w.text))));
    }

record Mapped {A B : Type 0} (f : A → B) (q : Read A) (v : B) (m : List ℕ) : Type 0 where
  value : A
  first : q ≡ read_as value m
  is : f value ≡ v

mapped_found : {A B : Type 0} (f : A → B) (q : Read A) (v : B) (m : List ℕ) → mapped f q ≡ read_as v m → Mapped f q v m
mapped_found f bad v m p = let z : ◌≡◌ {A = ℕ} 0 1 = cc in absurd (omega arith)
mapped_found f (read_as x l) v m p = let a : f x ≡ v = cc in let b : l ≡ m = cc in record { value = x; first = rw b; is = a }

-- the same line, where the item or the rest is another
same_found : {l : List ℕ} {i j : Item} {m k : List ℕ} → i ≡ j → m ≡ k → LineFound l i m → LineFound l j k
same_found {l} {i} {j} {m} {k} p q h = subst (λ (x : Item). LineFound l x k) p (subst (λ (x : List ℕ). LineFound l i x) q h)

face_found : (l : List ℕ) (f : Face) (m : List ℕ) → read_corners l ≡ read_as f m → LineFound (bytes "f " ++ l) (face f) m
unfolding read_corners
face_found l f m p =
    let a = then_found (read_corner 32 l) _ f m p in
    let b = then_found (read_corner 32 a.rest) _ f m a.second in
    let c = then_found (read_corner 32 b.rest) _ f m b.second in
    let d = then_found (read_corner 10 c.rest) _ f m c.second in
    let g : Face = record { a = a.value; b = b.value; c = c.value; d = d.value } in
    let is : g ≡ f = cc d.second in
    let k : d.rest ≡ m = cc d.second in
    same_found (ap face is) k
    (four_found l a.value b.value c.value d.value a.rest b.rest c.rest d.rest a.first b.first c.first d.first)

vertex_found : (l : List ℕ) (v : Vertex) (m : List ℕ) → read_vertex false l ≡ read_as v m → LineFound (bytes "v " ++ l) (vertex v) m
unfolding line_text bytes
vertex_found l v m p = let h = point_found l v m p in record { line = vertex_line v; fits = h.fits; is = refl; text = ap (λ (k : List ℕ). 118 ∷ 32 ∷ k) h.text }

comment_found : (l : List ℕ) (i : Item) (m : List ℕ) → read_comment l ≡ read_as i m → LineFound (bytes "#" ++ l) i m
unfolding read_comment line_text bytes
comment_found l i m p =
    let q = ended_found 10 (read_as comment (skip_to 10 l)) i m p in
    let a : comment ≡ i = cc in
    let b : skip_to 10 l ≡ 10 ∷ m = cc in
    let s = skip_found 10 10 l m b in
    record { line = comment_line s.bytes; fits = s.without; is = a; text = ap (λ (k : List ℕ). 35 ∷ k) (s.text ∙ sym (append_assoc s.bytes (10 ∷ []) m)) }

line_found : (l : List ℕ) (i : Item) (m : List ℕ) → read_item l ≡ read_as i m → LineFound l i m
unfolding read_item
line_found l i m p = vertex_first (starts_with (bytes "v ") l) refl p
  where
    comment_first : (t : Bool) → starts_with (bytes "#") l ≡ t → cond t (read_comment (drop (length (bytes "#")) l)) bad ≡ read_as i m → LineFound l i m
    comment_first true d q = subst (λ (k : List ℕ). LineFound k i m) (sym (starts_found (bytes "#") l d)) (comment_found (drop (length (bytes "#")) l) i m q)
    comment_first false d q = let z : ◌≡◌ {A = ℕ} 0 1 = cc in absurd (omega arith)

    face_first : (t : Bool) → starts_with (bytes "f ") l ≡ t → cond t (mapped face (read_corners (drop (length (bytes "f ")) l))) (cond (starts_with (bytes "#") l) (read_comment (drop (length (bytes "#")) l)) bad) ≡ read_as i m
        → LineFound l i m
    face_first true d q =
        let f = mapped_found face (read_corners (drop (length (bytes "f ")) l)) i m q in
        subst (λ (k : List ℕ). LineFound k i m) (sym (starts_found (bytes "f ") l d)) (same_found f.is refl (face_found (drop (length (bytes "f ")) l) f.value m f.first))
    face_first false d q = comment_first (starts_with (bytes "#") l) refl q

    vertex_first : (t : Bool) → starts_with (bytes "v ") l ≡ t
        → cond t (mapped vertex (read_vertex false (drop (length (bytes "v ")) l)))
        (cond (starts_with (bytes "f ") l) (mapped face (read_corners (drop (length (bytes "f ")) l))) (cond (starts_with (bytes "#") l) (read_comment (drop (length (bytes "#")) l)) bad)) ≡ read_as i m
        → LineFound l i m
    vertex_first true d q =
        let v = mapped_found vertex (read_vertex false (drop (length (bytes "v ")) l)) i m q in
        subst (λ (k : List ℕ). LineFound k i m) (sym (starts_found (bytes "v ") l d)) (same_found v.is refl (vertex_found (drop (length (bytes "v ")) l) v.value m v.first))
    vertex_first false d q = face_first (starts_with (bytes "f ") l) refl q

-- ---- lines after each other
record RowsFound (l : List ℕ) (w : Rows Item) : Type 0 where
  lines : List TextLine
  fit : Every LineFits lines
  is : items_of lines ≡ w.values
  text : l ≡ texts line_text lines ++ w.rest

rows_found : (n : ℕ) (l : List ℕ) → RowsFound l (rows read_item n l)
unfolding rows texts Every items_of
rows_found zero l = record { lines = []; fit = tt; is = refl; text = refl }
rows_found (suc n) l = go (read_item l) refl (λ m. rows_found n m)
  where
    go : (r : Read Item) → read_item l ≡ r → ((m : List ℕ) → RowsFound m (rows read_item n m)) → RowsFound l (rows_after l r (rows read_item n))
    go bad e more = record { lines = []; fit = tt; is = refl; text = refl }
    go (read_as i m) e more =
        let h = line_found l i m e in
        let r = more m in
        record {
          lines = h.line ∷ r.lines;
          fit = (h.fits, r.fit);
          is = λ j. h.is j ∷ r.is j;
          text = h.text ∙ ap (λ (k : List ℕ). line_text h.line ++ k) r.text ∙ sym (append_assoc (line_text h.line) (texts line_text r.lines) (rows read_item n m).rest);
        }

-- a good line takes a byte
shorter : (l : List ℕ) (i : Item) (m : List ℕ) → read_item l ≡ read_as i m → length m < length l
shorter l i m e =
    let h = line_found l i m e in
    let k = line_some h.line in
    let q = ap length h.text in
    omega (arith, length-append (line_text h.line) m)

-- so as many lines as bytes are enough: what is left does not start with a good one
rows_stop : (n : ℕ) (l : List ℕ) → length l ≤ n → read_item (rows read_item n l).rest ≡ bad
unfolding rows
rows_stop zero [] h = item_none
rows_stop zero (b ∷ l) h = absurd (omega arith)
rows_stop (suc n) l h = go (read_item l) refl (λ m k. rows_stop n m k)
  where
    go : (r : Read Item) → read_item l ≡ r → ((m : List ℕ) → length m ≤ n → read_item (rows read_item n m).rest ≡ bad) → read_item (rows_after l r (rows read_item n)).rest ≡ bad
    go bad e more = e
    go (read_as i m) e more = let k = shorter l i m e in more m (omega arith)

-- ---- the whole text
no_line_lem : (l : List ℕ) → read_item l ≡ bad → NoLine l
no_line_lem l e x rest h t =
    let a = line_back x h rest in
    let b : read_item l ≡ read_as (item_of x) rest = ap read_item t ∙ a in
    let z : ◌≡◌ {A = ℕ} 0 1 = cc in
    omega arith

no_rounds : (l : List ℕ) → read_rounds l ≡ bad → NoRounds l
no_rounds l e k rest h t =
    let a = rounds_back k rest h in
    let b : read_rounds l ≡ read_as k rest = ap read_rounds t ∙ a in
    let z : ◌≡◌ {A = ℕ} 0 1 = cc in
    omega arith

record RoundsFound (l : List ℕ) (k : ℕ) (m : List ℕ) : Type 0 where
  few : k ≤ largest_number
  text : l ≡ rounds_text k ++ m

rounds_found : (l : List ℕ) (k : ℕ) (m : List ℕ) → read_rounds l ≡ read_as k m → RoundsFound l k m
unfolding read_rounds rounds_text
rounds_found l k m p = go (starts_with (bytes "# rounds ") l) refl p
  where
    go : (t : Bool) → starts_with (bytes "# rounds ") l ≡ t → cond t (natural largest_number 10 (drop (length (bytes "# rounds ")) l)) bad ≡ read_as k m → RoundsFound l k m
    go true d q =
        let r = drop (length (bytes "# rounds ")) l in
        record {
          few = natural_limit largest_number 10 r k m q;
          text = simp append_assoc (starts_found (bytes "# rounds ") l d ∙ ap (λ (s : List ℕ). bytes "# rounds " ++ s) (field_found largest_number 10 r k m q));
        }
    go false d q = let z : ◌≡◌ {A = ℕ} 0 1 = cc in absurd (omega arith)

module _ (l : List ℕ) (k : ℕ) (r : List ℕ) (e : read_rounds l ≡ read_as k r) where
  abbrev h : RoundsFound l k r
  h = rounds_found l k r e

  abbrev f : RowsFound r (items r)
  f = rows_found (length r) r

  whole : l ≡ obj_text k f.lines ++ (items r).rest
  unfolding obj_text
  whole = h.text ∙ ap (λ (s : List ℕ). rounds_text k ++ s) f.text ∙ sym (append_assoc (rounds_text k) (texts line_text f.lines) (items r).rest)

  -- nothing is left
  all_written : (n : TextNet) → (items r).rest ≡ [] → net_of k (items r).values ≡ n → WrittenBy l n
  unfolding net_of
  all_written n z q =
      subst (WrittenBy l) q
      (record {
        lines = f.lines;
        writes = record {
          fit = f.fit;
          vertices = ap vertices_in f.is;
          faces = ap faces_in f.is;
          vertex_count = refl;
          face_count = refl;
          rounds = h.few;
          rule = refl;
        };
        text = whole ∙ ap (λ (s : List ℕ). obj_text k f.lines ++ s) z ∙ append-nil (obj_text k f.lines);
      })

  items-length : length f.lines ≡ length (items r).values
  items-length = sym (length-items f.lines) ∙ ap length f.is

  -- something is left
  some_left : 0 < length (items r).rest → FirstBad l (2 + length f.lines)
  some_left s = later_line (record {
    rounds = k;
    lines = f.lines;
    rest = (items r).rest;
    few = h.few;
    fit = f.fit;
    text = whole;
    left = s;
    no_line = no_line_lem (items r).rest (rows_stop (length r) r (omega arith));
  })

ended_parsed : (p : ℕ) (v : TextNet) (s : List ℕ) (n : TextNet) (m : List ℕ) → ended p v s ≡ parsed n m → (s ≡ []) × (v ≡ n)
ended_parsed p v [] n m e = (refl, cc)
ended_parsed p v (b ∷ s) n m e = let z : ◌≡◌ {A = ℕ} 0 1 = cc in absurd (omega arith)

ended_bad : (p : ℕ) (v : TextNet) (s : List ℕ) (q : ℕ) → ended p v s ≡ bad_line q → (0 < length s) × (p ≡ q)
ended_bad p v [] q e = let z : ◌≡◌ {A = ℕ} 0 1 = cc in absurd (omega arith)
ended_bad p v (b ∷ s) q e = (omega arith, cc)

module _ (l : List ℕ) where
  accepted : (n : TextNet) (m : List ℕ) → parse_obj l ≡ parsed n m → WrittenBy l n
  unfolding parse_obj parse_items
  accepted n m e = go (read_rounds l) refl e
    where
      go : (q : Read ℕ) → read_rounds l ≡ q → next (line 1 q) parse_items ≡ parsed n m → WrittenBy l n
      go bad d p = let z : ◌≡◌ {A = ℕ} 0 1 = cc in absurd (omega arith)
      go (read_as k r) d p = let h = ended_parsed (2 + length (items r).values) (net_of k (items r).values) (items r).rest n m p in all_written l k r d n h.0 h.1

  refused : (p : ℕ) → parse_obj l ≡ bad_line p → FirstBad l p
  unfolding parse_obj parse_items
  refused p e = go (read_rounds l) refl e
    where
      go : (q : Read ℕ) → read_rounds l ≡ q → next (line 1 q) parse_items ≡ bad_line p → FirstBad l p
      go bad d b = let z : 1 ≡ p = cc in subst (FirstBad l) z (first_line (no_rounds l d))
      go (read_as k r) d b =
          let h = ended_bad (2 + length (items r).values) (net_of k (items r).values) (items r).rest p b in
          subst (FirstBad l) (ap (λ (x : ℕ). 2 + x) (items-length l k r d) ∙ h.1) (some_left l k r d h.0)

pub obj_form : Recognizes
obj_form = record { accepted = accepted; refused = refused }
