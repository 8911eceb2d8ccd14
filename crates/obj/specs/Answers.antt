-- What the answers of the readers say of a text l.
use Rattle.std.specs.Prelude.{◌≡◌, List, [], ◌∷◌, ℤ, ℕ, ◌+◌, ◌*◌, ◌≤◌, ◌<◌, length, drop, Option, Result, Ok, Err, IfSome}
use Rattle.std.proofs.lemmas.List.Edits.{sets}
use Rattle.decimal.specs.declared.Read as declared
use Rattle.decimal.specs.Answers.{Gives}
use Rattle.text.specs.Answers.{vertex_is, face_is}
use Rattle.textform.specs.Form.{Vertex, Face}
use Rattle.readingform.specs.Loaded.{coordinates_of, marks_of, corners_of}
use Rattle.obj.specs.declared.Item.{Item}
use Rattle.obj.specs.declared.Item.TheVariants as item
use Rattle.obj.specs.declared.Met.{Met}
use Rattle.objform.specs.Form as form
use Rattle.objform.specs.Form.{read_item, vertices_in, faces_in, items}

-- r is where `part` starts in l, at `at` or later
pub record StartsAt (part l : List ℕ) (at r : ℕ) : Type 0 where
  pub rest : drop r l ≡ part
  pub from : at ≤ r
  pub within : r ≤ length l

abbrev pub item_is : Item → form.Item
item_is (item.Vertex v) = form.vertex (vertex_is v)
item_is (item.Face f) = form.face (face_is f)
item_is item.Comment = form.comment

-- r says what the line at the front of l says; a good line takes a byte
pub record GivesLine (r : Option (declared.Read Item)) (l : List ℕ) : Type 0 where
  pub gives : Gives item_is r l (read_item l)
  pub takes : IfSome r (λ n. 0 < n.used)

-- ---- all lines of a text that starts with line 2

-- the vertices and the faces of its good lines
abbrev pub item_vertices : List ℕ → List Vertex
item_vertices l = vertices_in (items l).values

abbrev pub item_faces : List ℕ → List Face
item_faces l = faces_in (items l).values

-- one item more was met
pub record MeetsItem (i : form.Item) (v f w g : ℕ) : Type 0 where
  pub vertices : w ≡ v + length (vertices_in (i ∷ []))
  pub faces : g ≡ f + length (faces_in (i ∷ []))

-- all lines are good, with v vertices and f faces
pub record AllGood (l : List ℕ) (v f : ℕ) : Type 0 where
  pub vertices : length (item_vertices l) ≡ v
  pub faces : length (item_faces l) ≡ f
  pub rest : (items l).rest ≡ []

-- line n is the first bad one
pub record BadAt (l : List ℕ) (n : ℕ) : Type 0 where
  pub line : n ≡ 2 + length (items l).values
  pub some : 0 < length (items l).rest

abbrev pub CountsItems : Result Met ℕ → List ℕ → Type 0
CountsItems (Ok m) l = AllGood l m.vertices m.faces
CountsItems (Err n) l = BadAt l n

-- ---- tables t, c, m that come to u, d, o: vs and fs stand there behind v vertices and f faces
pub record ItemsStored (vs : List Vertex) (fs : List Face) (v f : ℕ) (t u : List ℤ) (c d m o : List ℕ) : Type 0 where
  pub vertices : u ≡ sets t (3 * v) (coordinates_of vs)
  pub faces : d ≡ sets c (4 * f) (corners_of fs)
  pub marks : o ≡ sets m v (marks_of vs)

-- room for these numbers of vertices and faces
pub record ItemsRoom (v f : ℕ) (vertex_table face_table mark_table : ℕ) : Type 0 where
  pub vertices : 3 * v ≤ vertex_table
  pub faces : 4 * f ≤ face_table
  pub marks : v ≤ mark_table

-- the same of one item more
abbrev pub RoomFor : form.Item → (v f vertex_table face_table mark_table : ℕ) → Type 0
RoomFor i v f = ItemsRoom (v + length (vertices_in (i ∷ []))) (f + length (faces_in (i ∷ [])))

pub record ItemStored (i : form.Item) (v f w g : ℕ) (t u : List ℤ) (c d m o : List ℕ) : Type 0 where
  pub meets : MeetsItem i v f w g
  pub stored : ItemsStored (vertices_in (i ∷ [])) (faces_in (i ∷ [])) v f t u c d m o
