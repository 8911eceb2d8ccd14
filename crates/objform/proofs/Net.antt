-- The vertices and faces among items. Assumes nothing.
use mathlib.Core.Path.{◌≡◌, refl, ap, ◌∙◌}
use mathlib.Core.List.{List, [], ◌∷◌, ◌++◌}
use Prim.Native.Nat.{◌+◌, ◌≤◌}
use native.Mathlib.Omega.{arith}
use lib.ListN.{length, length-append}
use Rattle.decimalform.specs.Decimal.{bad}
use Rattle.textform.specs.Bytes.{bytes}
use Rattle.objform.specs.Form.{Item, vertex, face, comment, read_item, vertices_in, faces_in}

-- no line, no item
pub item_none : read_item [] ≡ bad
unfolding read_item bytes
item_none = refl

-- ---- one item before others
pub vertices_one : (i : Item) (is : List Item) → vertices_in (i ∷ is) ≡ vertices_in (i ∷ []) ++ vertices_in is
unfolding vertices_in
vertices_one (vertex v) is = refl
vertices_one (face f) is = refl
vertices_one comment is = refl

pub faces_one : (i : Item) (is : List Item) → faces_in (i ∷ is) ≡ faces_in (i ∷ []) ++ faces_in is
unfolding faces_in
faces_one (vertex v) is = refl
faces_one (face f) is = refl
faces_one comment is = refl

module _ (i : Item) (is : List Item) where
  pub vertices_length : length (vertices_in (i ∷ is)) ≡ length (vertices_in (i ∷ [])) + length (vertices_in is)
  vertices_length = ap length (vertices_one i is) ∙ length-append (vertices_in (i ∷ [])) (vertices_in is)

  pub faces_length : length (faces_in (i ∷ is)) ≡ length (faces_in (i ∷ [])) + length (faces_in is)
  faces_length = ap length (faces_one i is) ∙ length-append (faces_in (i ∷ [])) (faces_in is)

pub vertices_most : (is : List Item) → length (vertices_in is) ≤ length is
unfolding vertices_in
vertices_most [] = omega arith
vertices_most (vertex v ∷ is) = let h = vertices_most is in omega arith
vertices_most (face f ∷ is) = let h = vertices_most is in omega arith
vertices_most (comment ∷ is) = let h = vertices_most is in omega arith

pub faces_most : (is : List Item) → length (faces_in is) ≤ length is
unfolding faces_in
faces_most [] = omega arith
faces_most (vertex v ∷ is) = let h = faces_most is in omega arith
faces_most (face f ∷ is) = let h = faces_most is in omega arith
faces_most (comment ∷ is) = let h = faces_most is in omega arith
