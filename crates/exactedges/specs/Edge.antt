-- The exact point of one edge on the caller's tables.
use Rattle.std.specs.Prelude.{◌≡◌, Bool, true, false, cond, Option, None, Some, List, ℕ, ◌+◌, ◌≤◌, ◌<◌, ℤ, pos, nat_abs, ◌*ℤ◌, length}
use Rattle.curve.specs.Weights.{Weights}
use Rattle.rings.specs.Scales.{edge_range}
use Rattle.topology.specs.Shape.{quads}
use Rattle.topology.specs.HalfEdge.{from, to, mate}
use Rattle.topology.specs.Boundary.{along, back}
use Rattle.nets.specs.Net.{marked}
use Rattle.schemelaws.specs.Ordinary.{Ordinary, straight}
use Rattle.ringsizes.specs.Classes.{ordinary_by}
use Rattle.edgeentries.specs.Entry.{wide_flag, boundary_flag, unit_of}
use Rattle.coordinates.specs.Stencil.{far_value}

-- the far points beyond the start and the end of the boundary half-edge h: the next vertex of its segment, or none where that end is marked
abbrev pub far_before : (l marks : List ℕ) (h : ℕ) → Option ℕ
far_before l marks h = cond (marked marks (from l h)) None (Some (from l (back quads l h)))

abbrev pub far_after : (l marks : List ℕ) (h : ℕ) → Option ℕ
far_after l marks h = cond (marked marks (to quads l h)) None (Some (to quads l (along quads l h)))

-- the vertex o is a corner of l
pub record CornerOf (l : List ℕ) (o : ℕ) : Type 0 where
  pub at : ℕ
  pub lt : at < length l
  pub is : from l at ≡ o

-- the far point beyond the ordinary vertex that the inner half-edge h leaves
pub record StraightFar (l : List ℕ) (h : ℕ) (f : Option ℕ) : Type 0 where
  pub value : (e : ℕ → ℤ) → far_value e f (e (from l h)) (e (to quads l h)) ≡ straight l e h
  pub corner : (o : ℕ) → f ≡ Some o → CornerOf l o

-- the value of the far point f beyond p, where q is the other near point
abbrev pub far_on : (ℕ → ℤ) → Option ℕ → (p q : ℕ) → ℤ
far_on e f p q = far_value e f (e p) (e q)

-- the corners of l that the classes in w, from `at` on, call ordinary are, and the others are not
pub record ClassedCorners (at initial : ℕ) (l w : List ℕ) : Type 0 where
  pub room : at + initial ≤ length w
  pub ordinary : (h : ℕ) → h < length l → ordinary_by w at initial (from l h) ≡ true → Ordinary l (from l h)
  pub irregular : (h : ℕ) → h < length l → ordinary_by w at initial (from l h) ≡ false → Ordinary l (from l h) → ⊥

-- r tells whether both ends of h are ordinary
pub record ClassedEnds (l : List ℕ) (h : ℕ) (r : Bool) : Type 0 where
  pub both : r ≡ true → Ordinary l (from l h) × Ordinary l (to quads l h)
  pub not_both : r ≡ false → Ordinary l (from l h) → Ordinary l (to quads l h) → ⊥

-- the flag that the edge of h has
pub data Flagged (l : List ℕ) (h flag : ℕ) : Type 0 where
  plain : mate quads l h < length l → Ordinary l (from l h) → Ordinary l (to quads l h) → flag ≡ 0 → Flagged l h flag
  wide : mate quads l h < length l → (Ordinary l (from l h) → Ordinary l (to quads l h) → ⊥) → flag ≡ wide_flag → Flagged l h flag
  boundary : mate quads l h ≡ length l → flag ≡ boundary_flag → Flagged l h flag

-- x is a coordinate of the point of an edge with this flag: X is the same over `edge_scale`
pub record ExactEdge (w : Weights) (flag : ℕ) (X x : ℤ) : Type 0 where
  pub value : pos (unit_of w flag) *ℤ x ≡ X
  pub small : nat_abs X ≤ edge_range w

-- so on each axis
pub record ExactPoint (w : Weights) (flag : ℕ) (E : ℕ → ℤ) (x y z : ℤ) : Type 0 where
  pub on₀ : ExactEdge w flag (E 0) x
  pub on₁ : ExactEdge w flag (E 1) y
  pub on₂ : ExactEdge w flag (E 2) z
