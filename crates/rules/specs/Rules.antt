-- The point rules of paper 01 on one coordinate, in exact fractions; which points they are given is the net's to say. The three boundary rules are those of
-- the curve, with the same weights. Nothing is rounded here.
use Rattle.std.specs.Prelude.{ℕ, ◌+◌, ◌-◌, ◌*◌}
use Rattle.curve.specs.Weights.{Weights, scale}
use Rattle.fractions.specs.Fraction.{Fraction, ◌+ᶠ◌, ◌-ᶠ◌, ◌×ᶠ◌, ◌/ᶠ◌, sumᶠ}

-- ---- boundary edges
-- "for consecutive points p, q, r, s the point on qr is (9(q + r) - p - s)/16"
unfoldable pub interior_point : Weights → (p q r s : Fraction) → Fraction
interior_point w p q r s = (w.near ×ᶠ (q +ᶠ r) -ᶠ w.far ×ᶠ (p +ᶠ s)) /ᶠ scale w

-- "On an end edge p0 p1 followed by p2: (7 p0 + 10 p1 - p2)/16"; paper 02: "end edge (8-ω)/16, (8+2ω)/16, -ω/16"
unfoldable pub end_point : Weights → (p q r : Fraction) → Fraction
end_point w p q r = ((w.near - 2 * w.far) ×ᶠ p +ᶠ (w.near + w.far) ×ᶠ q -ᶠ w.far ×ᶠ r) /ᶠ scale w

-- "A stretch of one edge: the midpoint"
unfoldable pub midpoint : (p q : Fraction) → Fraction
midpoint p q = (p +ᶠ q) /ᶠ 2

-- ---- extrapolated points
-- "For a boundary vertex P in m faces, P* = 2P minus the mean of the far ends of its m - 1 inner edges": r is m - 1
unfoldable pub extrapolated : (P : Fraction) (r : ℕ) (ends : ℕ → Fraction) → Fraction
extrapolated P r ends = 2 ×ᶠ P -ᶠ sumᶠ r ends /ᶠ r

-- "for m = 1, P* = 2P minus the opposite corner of its face"
unfoldable pub extrapolated_corner : (P opposite : Fraction) → Fraction
extrapolated_corner P opposite = 2 ×ᶠ P -ᶠ opposite

-- ---- inner edges
-- "Inner edges PQ (two faces). The point is (9(P + Q) - vP - vQ)/16": the four-point rule between the virtual points
abbrev pub inner_edge : Weights → (P Q v_p v_q : Fraction) → Fraction
inner_edge w P Q v_p v_q = interior_point w v_p P Q v_q

-- ---- a direction of a face: two opposite sides q and r, and beyond each, where there is a neighbour, the opposite edge of the neighbour
-- "Two neighbours: the four-point rule on four edge points"
abbrev pub direction_two : Weights → (p q r s : Fraction) → Fraction
direction_two = interior_point

-- "One: the end-edge rule, starting from the boundary edge's point": p
abbrev pub direction_one : Weights → (p q r : Fraction) → Fraction
direction_one = end_point

-- "None: the midpoint"
abbrev pub direction_none : (q r : Fraction) → Fraction
direction_none = midpoint

-- "Otherwise the mean of both"
abbrev pub mean_of_both : (x y : Fraction) → Fraction
mean_of_both = midpoint
