-- A net that lines write, in a text that is not too long, fits paper 01's form. Assumes nothing.
use mathlib.Core.Path.{ap, ◌∙◌, subst}
use mathlib.Core.List.{List, [], ◌∷◌}
use Prim.Native.Nat.{◌≤◌}
use native.Mathlib.Omega.{arith}
use lib.ListN.{length, length-append}
use Rattle.decimalform.specs.Decimal.{largest_number}
use Rattle.textform.specs.Form.{TextNet, without_corner}
use Rattle.textform.specs.Text.{texts}
use Rattle.textform.specs.Fits.{PointFits, FaceFits, Every, NetFits}
use Rattle.objform.specs.Form.{vertices_in, faces_in}
use Rattle.objform.specs.Text.{TextLine, vertex_line, face_line, comment_line, line_text, rounds_text, obj_text, LineFits, items_of, Writes}
use Rattle.objform.proofs.Net.{vertices_most, faces_most}
use Rattle.objform.proofs.Back.{lines_few, length-items}

points_fit : (ls : List TextLine) → Every LineFits ls → Every PointFits (vertices_in (items_of ls))
unfolding Every vertices_in items_of
points_fit [] h = tt
points_fit (vertex_line v ∷ ls) h = (h.0, points_fit ls h.1)
points_fit (face_line a b c d ∷ ls) h = points_fit ls h.1
points_fit (comment_line s ∷ ls) h = points_fit ls h.1

faces_fit : (ls : List TextLine) → Every LineFits ls → Every FaceFits (faces_in (items_of ls))
unfolding Every faces_in items_of
faces_fit [] h = tt
faces_fit (vertex_line v ∷ ls) h = faces_fit ls h.1
faces_fit (face_line a b c d ∷ ls) h =
    let p = h.0.0.number in
    let q = h.0.1.number in
    let r = h.0.2.number in
    let s = h.0.3.number in
    (record { a = omega arith; b = omega arith; c = omega arith; d = omega arith }, faces_fit ls h.1)
faces_fit (comment_line s ∷ ls) h = faces_fit ls h.1

module _ (n : TextNet) (ls : List TextLine) (w : Writes ls n) where
  lines_long : length ls ≤ length (obj_text n.counts.rounds ls)
  unfolding obj_text
  lines_long = let a = lines_few ls in omega (arith, length-append (rounds_text n.counts.rounds) (texts line_text ls))

  pub written_fits : length (obj_text n.counts.rounds ls) ≤ largest_number → NetFits without_corner n
  written_fits short =
      let l = lines_long in
      let i = length-items ls in
      let a = vertices_most (items_of ls) in
      let b = faces_most (items_of ls) in
      let p = ap length w.vertices ∙ w.vertex_count in
      let q = ap length w.faces ∙ w.face_count in
      record {
        counts = record { vertices = omega arith; faces = omega arith; rounds = w.rounds };
        vertex_count = w.vertex_count;
        face_count = w.face_count;
        vertices = subst (Every PointFits) w.vertices (points_fit ls w.fit);
        faces = subst (Every FaceFits) w.faces (faces_fit ls w.fit);
      }
