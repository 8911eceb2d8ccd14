-- Reading the text that a net is written as gives the net back. Assumes nothing.
use mathlib.Core.Path.{◌≡◌, refl, sym, ap, ◌∙◌}
use mathlib.Core.Bool.{true, false, ◌||◌}
use mathlib.Core.List.{List, [], ◌∷◌, ◌++◌, append_assoc}
use Prim.Native.Nat.{ℕ, zero, suc, ◌+◌, ◌≤◌}
use native.Mathlib.Omega.{arith}
use lib.Dec.{eqb}
use lib.ListN.{length, length-append}
use Rattle.decimalform.specs.Decimal.{Read, read_as, is_digit, largest_number}
use Rattle.decimalform.proofs.Back.{NoDigit, natural-back}
use Rattle.textform.specs.Bytes.{bytes}
use Rattle.textform.specs.Form.{Vertex, Face, TextNet, ended_by, Rows, rows, parsed, next, line, ended}
use Rattle.textform.specs.Text.{texts}
use Rattle.textform.specs.Fits.{Every, PointFits}
use Rattle.textform.proofs.Back.{ends, natural-field, point_back}
use Rattle.objform.specs.Form.{Item, vertex, face, comment, mapped, skip_to, skip_part, named, read_corner, read_corners, read_comment, read_item, read_rounds, vertices_in, faces_in, net_of, parse_items, parse_obj}
use Rattle.objform.specs.Text.{Part, none, slash, Corner, TextLine, vertex_line, face_line, comment_line, part_text, corner_text, line_text, rounds_text, obj_text, Without, PartFits, CornerFits, LineFits, item_of, items_of, Writes, plain_faces, plain_lines, CornersFit, ObjFits, ObjBack}
use Rattle.objform.proofs.Net.{item_none}
use Rattle.objform.proofs.Examples as examples

-- ---- bytes that are skipped
skip_back : (stop e : ℕ) → (eqb e stop || eqb e 10) ≡ true → (s rest : List ℕ) → Without stop s → skip_to stop (s ++ (e ∷ rest)) ≡ e ∷ rest
unfolding skip_to Every
skip_back stop e d [] rest w = rw d
skip_back stop e d (b ∷ s) rest w = rw w.0 (skip_back stop e d s rest w.1)

-- ---- a corner, which the byte e ends
module _ (e : ℕ) (digit : is_digit e ≡ false) (other : eqb e 47 ≡ false) (ending : (eqb e 32 || eqb e 10) ≡ true) where
  part_back : (p : Part) (rest : List ℕ) → PartFits p → skip_part (part_text p ++ (e ∷ rest)) ≡ e ∷ rest
  part_back none rest w = rw other
  part_back (slash s) rest w = skip_back 32 e ending s rest w

  part_ends : (p : Part) (rest : List ℕ) → NoDigit (part_text p ++ (e ∷ rest))
  part_ends none rest = record { none = digit }
  part_ends (slash s) rest = record { none = refl }

  corner-back : (c : Corner) (rest : List ℕ) → CornerFits c → read_corner e (corner_text c e ++ rest) ≡ read_as c.vertex rest
  unfolding read_corner corner_text
  corner-back c rest h =
      let m = part_text c.part ++ (e ∷ rest) in
      simp append_assoc
      (ap (λ (w : Read ℕ). ended_by e (named w)) (natural-back largest_number (suc c.vertex) m h.number (part_ends c.part rest))
      ∙ ap (λ (l : List ℕ). ended_by e (read_as c.vertex l)) (part_back c.part rest h.part)
      ∙ ends e c.vertex rest)

corners_back : (a b c d : Corner) (rest : List ℕ) → CornerFits a → CornerFits b → CornerFits c → CornerFits d
    → read_corners (corner_text a 32 ++ (corner_text b 32 ++ (corner_text c 32 ++ (corner_text d 10 ++ rest)))) ≡ read_as (record { a = a.vertex; b = b.vertex; c = c.vertex; d = d.vertex }) rest
unfolding read_corners
corners_back a b c d rest ha hb hc hd =
    rw (
      corner-back 32 refl refl refl a (corner_text b 32 ++ (corner_text c 32 ++ (corner_text d 10 ++ rest))) ha,
      corner-back 32 refl refl refl b (corner_text c 32 ++ (corner_text d 10 ++ rest)) hb,
      corner-back 32 refl refl refl c (corner_text d 10 ++ rest) hc,
      corner-back 10 refl refl refl d rest hd,
    )

-- ---- lines
pub line_back : (l : TextLine) → LineFits l → (rest : List ℕ) → read_item (line_text l ++ rest) ≡ read_as (item_of l) rest
unfolding read_item read_comment line_text bytes
line_back (vertex_line v) h rest = ap (mapped vertex) (point_back v h rest)
line_back (face_line a b c d) h rest = simp append_assoc (ap (mapped face) (corners_back a b c d rest h.0 h.1 h.2 h.3))
line_back (comment_line s) h rest =
    ap (λ (l : List ℕ). ended_by 10 (read_as comment l)) (ap (skip_to 10) (append_assoc s (10 ∷ []) rest) ∙ skip_back 10 10 refl s rest h) ∙ ends 10 comment rest

-- every line has a byte
pub line_some : (l : TextLine) → 1 ≤ length (line_text l)
unfolding line_text bytes
line_some (vertex_line v) = omega arith
line_some (face_line a b c d) = omega arith
line_some (comment_line s) = omega arith

pub lines_few : (ls : List TextLine) → length ls ≤ length (texts line_text ls)
unfolding texts
lines_few [] = omega arith
lines_few (l ∷ ls) = let a = line_some l in let b = lines_few ls in omega (arith, length-append (line_text l) (texts line_text ls))

pub length-items : (ls : List TextLine) → length (items_of ls) ≡ length ls
unfolding items_of
length-items [] = refl
length-items (x ∷ ls) = ap suc (length-items ls)

rows_all : (ls : List TextLine) (n : ℕ) → length ls ≤ n → Every LineFits ls → rows read_item n (texts line_text ls) ≡ record { values = items_of ls; rest = [] }
unfolding rows texts Every items_of
rows_all [] zero h w = refl
rows_all [] (suc n) h w = rw item_none
rows_all (l ∷ ls) zero h w = absurd (omega arith)
rows_all (l ∷ ls) (suc n) h w = rw (line_back l w.0 (texts line_text ls), rows_all ls n (omega arith) w.1)

-- ---- the whole text
pub rounds_back : (k : ℕ) (rest : List ℕ) → k ≤ largest_number → read_rounds (rounds_text k ++ rest) ≡ read_as k rest
unfolding read_rounds rounds_text bytes
rounds_back k rest h = simp append_assoc (natural-field 10 refl largest_number k rest h)

lines_back : (k : ℕ) (ls : List TextLine) → k ≤ largest_number → Every LineFits ls → parse_obj (obj_text k ls) ≡ parsed (net_of k (items_of ls)) []
unfolding parse_obj parse_items obj_text
lines_back k ls h w =
    let r = rows_all ls (length (texts line_text ls)) (lines_few ls) w in
    ap (λ (w : Read ℕ). next (line 1 w) parse_items) (rounds_back k (texts line_text ls) h)
    ∙ ap (λ (w : Rows Item). ended (2 + length w.values) (net_of k w.values) w.rest) r

net_is : (n : TextNet) (is : List Item) → vertices_in is ≡ n.vertices → faces_in is ≡ n.faces → length n.vertices ≡ n.counts.vertices → length n.faces ≡ n.counts.faces → n.rule ≡ false
    → net_of n.counts.rounds is ≡ n
unfolding net_of
net_is n is v f p q r =
    let a : length (vertices_in is) ≡ n.counts.vertices = ap length v ∙ p in
    let b : length (faces_in is) ≡ n.counts.faces = ap length f ∙ q in
    λ i. record { rule = sym r i; counts = record { vertices = a i; faces = b i; rounds = n.counts.rounds }; vertices = v i; faces = f i }

net-back : (n : TextNet) (ls : List TextLine) → Writes ls n → parse_obj (obj_text n.counts.rounds ls) ≡ parsed n []
net-back n ls w =
    lines_back n.counts.rounds ls w.rounds w.fit
    ∙ ap (λ (m : TextNet). parsed m []) (net_is n (items_of ls) w.vertices w.faces w.vertex_count w.face_count w.rule)

-- ---- the plain lines of a net
faces_vertices : (fs : List Face) → vertices_in (items_of (plain_faces fs)) ≡ []
unfolding vertices_in items_of plain_faces
faces_vertices [] = refl
faces_vertices (f ∷ fs) = faces_vertices fs

faces_faces : (fs : List Face) → faces_in (items_of (plain_faces fs)) ≡ fs
unfolding faces_in items_of plain_faces
faces_faces [] = refl
faces_faces (f ∷ fs) = ap (λ (l : List Face). f ∷ l) (faces_faces fs)

faces_fit : (fs : List Face) → Every CornersFit fs → Every LineFits (plain_faces fs)
unfolding Every plain_faces
faces_fit [] h = tt
faces_fit (f ∷ fs) h =
    let c = h.0 in (
      (
        record { number = let k = c.a in omega arith; part = tt },
        record { number = let k = c.b in omega arith; part = tt },
        record { number = let k = c.c in omega arith; part = tt },
        record { number = let k = c.d in omega arith; part = tt },
      ),
      faces_fit fs h.1,
    )

module _ (fs : List Face) where
  plain_vertices : (vs : List Vertex) → vertices_in (items_of (plain_lines vs fs)) ≡ vs
  unfolding vertices_in items_of plain_lines
  plain_vertices [] = faces_vertices fs
  plain_vertices (v ∷ vs) = ap (λ (l : List Vertex). v ∷ l) (plain_vertices vs)

  plain_faces_lem : (vs : List Vertex) → faces_in (items_of (plain_lines vs fs)) ≡ fs
  unfolding faces_in items_of plain_lines
  plain_faces_lem [] = faces_faces fs
  plain_faces_lem (v ∷ vs) = plain_faces_lem vs

  plain_fit : Every CornersFit fs → (vs : List Vertex) → Every PointFits vs → Every LineFits (plain_lines vs fs)
  unfolding Every plain_lines
  plain_fit f [] h = faces_fit fs f
  plain_fit f (v ∷ vs) h = (h.0, plain_fit f vs h.1)

plain_writes : (n : TextNet) → ObjFits n → Writes (plain_lines n.vertices n.faces) n
plain_writes n h = record {
  fit = plain_fit n.faces h.faces n.vertices h.fits.vertices;
  vertices = plain_vertices n.faces n.vertices;
  faces = plain_faces_lem n.faces n.vertices;
  vertex_count = h.fits.vertex_count;
  face_count = h.fits.face_count;
  rounds = h.fits.counts.rounds;
  rule = h.rule;
}

pub obj_back : ObjBack
obj_back = record { back = net-back; lines = plain_writes }
