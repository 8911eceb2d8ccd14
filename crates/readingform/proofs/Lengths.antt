-- How many numbers the lines of a net have. Assumes nothing.
use mathlib.Core.Path.{◌≡◌, refl}
use mathlib.Core.List.{List, [], ◌∷◌}
use Prim.Native.Nat.{◌*◌}
use native.Mathlib.Omega.{arith}
use lib.ListN.{length}
use Rattle.textform.specs.Form.{Vertex, Face}
use Rattle.readingform.specs.Loaded.{coordinates_of, marks_of, corners_of}

pub length_coordinates : (vs : List Vertex) → length (coordinates_of vs) ≡ 3 * length vs
unfolding coordinates_of
length_coordinates [] = refl
length_coordinates (v ∷ vs) = let e = length_coordinates vs in omega arith

pub length_marks : (vs : List Vertex) → length (marks_of vs) ≡ length vs
unfolding marks_of
length_marks [] = refl
length_marks (v ∷ vs) = let e = length_marks vs in omega arith

pub length_corners : (fs : List Face) → length (corners_of fs) ≡ 4 * length fs
unfolding corners_of
length_corners [] = refl
length_corners (f ∷ fs) = let e = length_corners fs in omega arith
