-- A boundary segment through the split. Paper 02: "The seam guarantee covers the stretch after this split"; what two nets with side counts share before it,
-- they share after it.
use Rattle.std.specs.Prelude.{◌≡◌, ◌↔◌, List, ℕ, ℤ, ◌+ℤ◌}
use Rattle.rounding.specs.Rounding.{round}
use Rattle.curve.specs.Curve.{Kind, Rules, Point, each, curve_step}
use Rattle.topology.specs.Boundary.{Way}
use Rattle.polygons.specs.Polygons.{shape_of}
use Rattle.nets.specs.Net.{ControlNet, control_tables}
use Rattle.splitting.specs.Splitting.{split}
use Rattle.seam.specs.Reading.{ReadsIn, Reads}
use Rattle.seam.specs.Seam.{Shared, AdmissibleIn}

-- "each edge point the midpoint, rounded like any new point; drawn points stay": the same inside a segment and at its ends
abbrev pub midpoints : Rules ℤ
midpoints = record {
  keep = λ p. p;
  inside = λ p q r s. round (q +ℤ r) 2;
  end = λ p q r. round (p +ℤ q) 2;
  single = λ p q. round (p +ℤ q) 2;
}

-- the list with a midpoint between each two neighbours. It is worked out from the list alone; no face is seen here.
unfoldable pub halved : Kind → List Point → List Point
unfolding curve_step
halved c L = curve_step (each midpoints) c L

-- a segment read from a net before its split
abbrev pub ReadsControl : ControlNet → Way → Kind → ℕ → List Point → Type 0
ReadsControl m = ReadsIn (shape_of m.sides) (control_tables m)

-- a segment that two nets share before their splits
abbrev pub SharedControl : ControlNet → ControlNet → Way → Way → Kind → ℕ → ℕ → List Point → Type 0
SharedControl a b = Shared (shape_of a.sides) (shape_of b.sides) (control_tables a) (control_tables b)

-- what the seam asks of it: refusals 7 to 11 do not hold
abbrev pub AdmissibleControl : ControlNet → Type 0
AdmissibleControl m = AdmissibleIn (shape_of m.sides) (control_tables m)

-- Of two nets a and b that share the list L before their splits, read from s and from t: both splits are read from the same vertices the same ways, and both
-- readings are the halved list.
pub record SplitShared (a b : ControlNet) (v w : Way) (c : Kind) (s t : ℕ) (L : List Point) : Type 0 where
  pub left : (P : List Point) → Reads (split a) v c s P ↔ (P ≡ halved c L)
  pub right : (P : List Point) → Reads (split b) w c t P ↔ (P ≡ halved c L)
