-- The lines after the third: where each answer of the first pass comes from. Assumes nothing.
use mathlib.Core.Path.{◌≡◌, refl, sym, ap, ◌∙◌, subst}
use mathlib.Core.Bool.{true, false}
use mathlib.Core.List.{List, [], ◌∷◌}
use Prim.Native.Nat.{ℕ, ◌+◌, ◌-◌, ◌≤◌, ◌<◌}
use native.Mathlib.Omega.{arith}
use lib.ListN.{length, take, drop, length-drop}
use lib.Seq.{drop-drop}
use borrow.Author.Tests.{eq-eqb, ne_eqb}
use Rattle.decimalform.specs.Decimal.{Read, read_as, bad}
use Rattle.decimal.proofs.Reading.{part_rest}
use Rattle.textform.specs.Form.{Head, Vertex, Face, TextNet, Rows, rows, read_vertex, read_face, read_corner_names, corner_names, starts_with, parsed, bad_line, lines, ended, parse_body}
use Rattle.reading.specs.declared.Block.{Block}
use Rattle.reading.specs.Answers.{bare, LinesCounted}
use Rattle.reading.proofs.Lines.{bare_counted}
use Rattle.textform.proofs.Lines.{rows_length, starts_length, names_here, names_later, names_none}
use Rattle.textform.specs.Bytes.{bytes}

-- ---- a block of lines from `at` on: r has the number of the good ones and of their bytes
pub record BlockAt {A : Type 0} (read : List ℕ → Read A) (n : ℕ) (l : List ℕ) (at : ℕ) (r : Block) : Type 0 where
  pub good : r.good ≡ length (rows read n (drop at l)).values
  pub few : r.good ≤ n
  pub rest : (rows read n (drop at l)).rest ≡ drop (at + r.used) l
  pub within : at + r.used ≤ length l

pub block_at : {A : Type 0} (read : List ℕ → Read A) (n : ℕ) (l : List ℕ) (at : ℕ) {r : Block} → at ≤ length l
    → LinesCounted r (take (length l - at) (drop at l)) (rows (bare read) n (take (length l - at) (drop at l))) → BlockAt read n l at r
block_at read n l at {r} k h =
    let here : LinesCounted r (drop at l) (rows read n (drop at l)) = bare_counted read n (drop at l) (subst (λ (p : List ℕ). LinesCounted r p (rows (bare read) n p)) (part_rest l at) h) in
    let few = rows_length read n (drop at l) in
    let within = here.within in
    record { good = here.good; few = omega (arith, here.good); rest = sym here.rest ∙ drop-drop r.used at l; within = omega (arith, length-drop at l) }

lines_all : {A : Type 0} (n count : ℕ) (w : Rows A) → length w.values ≡ count → lines n count w ≡ parsed w.values w.rest
lines_all n count w e = rw (eq-eqb (length w.values) count e)

lines_some : {A : Type 0} (n count : ℕ) (w : Rows A) → (length w.values ≡ count → ⊥) → lines n count w ≡ bad_line (n + length w.values)
lines_some n count w e = rw (ne_eqb (length w.values) count e)

pub ended_none : {A : Type 0} (n : ℕ) (v : A) (l : List ℕ) → l ≡ [] → ended n v l ≡ parsed v []
ended_none n v l e = ap (ended n v) e

pub ended_some : {A : Type 0} (n : ℕ) (v : A) (l : List ℕ) → 0 < length l → ended n v l ≡ bad_line n
ended_some n v [] h = absurd (omega arith)
ended_some n v (b ∷ l) h = refl

-- ---- the answers, in the order of the lines
abbrev vertex_rows : Head → List ℕ → Rows Vertex
vertex_rows h m = rows (read_vertex h.marks) h.counts.vertices m

abbrev face_rows : Head → List ℕ → Rows Face
face_rows h j = rows read_face h.counts.faces j

module _ (h : Head) (m : List ℕ) where
  pub body_vertex : (length (vertex_rows h m).values ≡ h.counts.vertices → ⊥) → bad_line (4 + length (vertex_rows h m).values) ≡ parse_body h m
  unfolding parse_body
  body_vertex e = rw (lines_some 4 h.counts.vertices (vertex_rows h m) e)

  pub body_names : length (vertex_rows h m).values ≡ h.counts.vertices → read_corner_names (vertex_rows h m).rest ≡ bad → bad_line (4 + h.counts.vertices) ≡ parse_body h m
  unfolding parse_body
  body_names all e = rw (lines_all 4 h.counts.vertices (vertex_rows h m) all, e)

-- the vertex lines and the names are good, and j is left
pub record NamesRead (h : Head) (m j : List ℕ) : Type 0 where
  pub all : length (vertex_rows h m).values ≡ h.counts.vertices
  pub names : read_corner_names (vertex_rows h m).rest ≡ read_as tt j

-- the names stand at n, or do not
module _ (h : Head) (l : List ℕ) (at : ℕ) {r : Block} (b : BlockAt (read_vertex h.marks) h.counts.vertices l at r) (all : r.good ≡ h.counts.vertices) where
  abbrev names_at : ℕ
  names_at = at + r.used

  pub names_missing : starts_with (corner_names tt) (drop names_at l) ≡ false → bad_line (4 + h.counts.vertices) ≡ parse_body h (drop at l)
  names_missing e = body_names h (drop at l) (sym b.good ∙ all) (rw b.rest (names_later corner_names tt [] (drop names_at l) e ∙ names_none corner_names (drop names_at l)))

  pub names_there : starts_with (corner_names tt) (drop names_at l) ≡ true → NamesRead h (drop at l) (drop (names_at + 8) l)
  unfolding bytes
  names_there e = record {
    all = sym b.good ∙ all;
    names = rw b.rest (names_here corner_names tt [] (drop names_at l) e ∙ ap (read_as tt) (drop-drop 8 names_at l));
  }

  pub names_within : starts_with (corner_names tt) (drop names_at l) ≡ true → names_at + 8 ≤ length l
  unfolding bytes
  names_within e = let s = starts_length (corner_names tt) (drop names_at l) e in let w = b.within in omega (arith, length-drop names_at l)

module _ {h : Head} {m j : List ℕ} (r : NamesRead h m j) where
  pub body_face : (length (face_rows h j).values ≡ h.counts.faces → ⊥) → bad_line (5 + h.counts.vertices + length (face_rows h j).values) ≡ parse_body h m
  unfolding parse_body
  body_face e = rw (lines_all 4 h.counts.vertices (vertex_rows h m) r.all, r.names, lines_some (5 + h.counts.vertices) h.counts.faces (face_rows h j) e)

  module _ (e : length (face_rows h j).values ≡ h.counts.faces) where
    abbrev net : TextNet
    net = record { rule = h.rule; counts = h.counts; vertices = (vertex_rows h m).values; faces = (face_rows h j).values }

    all_lines : ended (5 + h.counts.vertices + h.counts.faces) net (face_rows h j).rest ≡ parse_body h m
    unfolding parse_body
    all_lines = rw (lines_all 4 h.counts.vertices (vertex_rows h m) r.all, r.names, lines_all (5 + h.counts.vertices) h.counts.faces (face_rows h j) e)

    pub body_surplus : 0 < length (face_rows h j).rest → bad_line (5 + h.counts.vertices + h.counts.faces) ≡ parse_body h m
    body_surplus s = sym (ended_some _ net (face_rows h j).rest s) ∙ all_lines

    pub body_whole : (face_rows h j).rest ≡ [] → parsed net [] ≡ parse_body h m
    body_whole s = sym (ended_none _ net (face_rows h j).rest s) ∙ all_lines
