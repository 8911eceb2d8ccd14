-- The nets that the form can write, under the columns that they are written with.
use Rattle.std.specs.Prelude.{◌≡◌, List, [], ◌∷◌, ◌≤◌, length}
use Rattle.std.specs.Int.Signed.{mag}
use Rattle.decimalform.specs.Decimal.{largest_number}
use Rattle.textform.specs.Form.{TextCounts, Vertex, Face, TextNet, Columns, with_corner, without_corner}

-- Paper 01: no number is "beyond signed 32 bits"
pub record CountsFit (n : TextCounts) : Type 0 where
  pub vertices : n.vertices ≤ largest_number
  pub faces : n.faces ≤ largest_number
  pub rounds : n.rounds ≤ largest_number

-- `mag` is n of n and of -(n + 1), so this is the range of signed 32 bits
pub record VertexFits (v : Vertex) : Type 0 where
  pub x : mag v.x ≤ largest_number
  pub y : mag v.y ≤ largest_number
  pub z : mag v.z ≤ largest_number
  pub mark : v.mark ≤ 255

-- a vertex that needs no mark
pub record PointFits (v : Vertex) : Type 0 where
  pub fits : VertexFits v
  pub unmarked : v.mark ≡ 0

pub record FaceFits (f : Face) : Type 0 where
  pub a : f.a ≤ largest_number
  pub b : f.b ≤ largest_number
  pub c : f.c ≤ largest_number
  pub d : f.d ≤ largest_number

-- every element of the list has P
unfoldable pub Every : {A : Type 0} → (A → Type 0) → List A → Type 0
Every P [] = Unit {0}
Every P (v ∷ vs) = P v × Every P vs

-- what a line under these columns can write
abbrev pub FitsUnder : Columns → Vertex → Type 0
FitsUnder with_corner v = VertexFits v
FitsUnder without_corner v = PointFits v

pub record NetFits (c : Columns) (n : TextNet) : Type 0 where
  pub counts : CountsFit n.counts
  pub vertex_count : length n.vertices ≡ n.counts.vertices
  pub face_count : length n.faces ≡ n.counts.faces
  pub vertices : Every (FitsUnder c) n.vertices
  pub faces : Every FaceFits n.faces
