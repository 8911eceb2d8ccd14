-- Paper 01's cases of inner edges and faces, computed from their rings. Assumes nothing.
use mathlib.Core.Path.{◌≡◌, refl}
use mathlib.Core.List.{List, [], ◌∷◌}
use Prim.Native.Nat.{ℕ}
use lib.IntN.{ℤ, pos, negsuc, ◌*ℤ◌}
use lib.ListN.{get_or}
use Rattle.integers.specs.Sum.{sum}
use Rattle.rounding.specs.Rounding.{round}
use Rattle.curve.specs.Weights.{Weights, kobbelt}
use Rattle.fractions.specs.Fraction.{Fraction, whole, ◌×ᶠ◌, sumᶠ, to_whole}
use Rattle.rings.specs.Ring.{wrap, virtual}
use Rattle.rules.specs.Rules.{interior_point, end_point, midpoint, extrapolated, extrapolated_corner, inner_edge, direction_two, direction_one, mean_of_both}
use Rattle.rules.specs.Numerators.{extrapolated_z, extrapolated_corner_z, inner_edge_z}

abbrev ring : List ℤ → ℕ → ℕ → Fraction
ring l n = wrap n (λ (i : ℕ). whole (get_or l i (pos 0)))

-- ---- "cube with corners at ±540": one coordinate, at an edge of the face where it is -540, along the face, and at the opposite edge. The two ends of an edge
-- are mirror images, with one virtual point.
abbrev low : ℤ
low = negsuc 539

abbrev high : ℤ
high = pos 540

abbrev cube_edge : Weights → Fraction
cube_edge w = let v : Fraction = virtual w 3 (ring (low ∷ high ∷ low ∷ []) 3) (ring (high ∷ high ∷ low ∷ []) 3) 0 in inner_edge kobbelt (whole low) (whole low) v v

abbrev cube_opposite : Fraction
cube_opposite = let v : Fraction = virtual kobbelt 3 (ring (high ∷ low ∷ high ∷ []) 3) (ring (low ∷ low ∷ high ∷ []) 3) 0 in inner_edge kobbelt (whole high) (whole high) v v

-- "edge point (0,-590,-590)"
cube-edge : to_whole (cube_edge kobbelt) ≡ negsuc 589
unfolding interior_point virtual sumᶠ round
cube-edge = refl

-- "Taking 1/5 for 1/9: the cube's edge point becomes -594"
cube-edge_fifth : to_whole (cube_edge (record { near = 5; far = 1 })) ≡ negsuc 593
unfolding interior_point virtual sumᶠ round
cube-edge_fifth = refl

-- the same over the common denominator, from virtual points of -140
cube-edge_numerator : inner_edge_z kobbelt low low (pos 453600 *ℤ negsuc 139) (pos 453600 *ℤ negsuc 139) ≡ pos 7257600 *ℤ negsuc 589
cube-edge_numerator = refl

abbrev cube_direction : Fraction
cube_direction = direction_two kobbelt cube_opposite (cube_edge kobbelt) (cube_edge kobbelt) cube_opposite

-- Paper 02: "So -737.5 gives -737"
cube_face : to_whole (mean_of_both cube_direction cube_direction) ≡ negsuc 736
unfolding interior_point midpoint virtual sumᶠ round
cube_face = refl

cube_face_exact : to_whole (2 ×ᶠ mean_of_both cube_direction cube_direction) ≡ negsuc 1474
unfolding interior_point midpoint virtual sumᶠ round
cube_face_exact = refl

-- ---- "two by two squares of side 16, four outer corners marked, centre raised to z = 16, rest 0": z at the edge from the middle M of a side to the centre.
-- M is in two faces; b and c are outer corners, in one face each, whose opposite corner is the centre.
abbrev extrapolated_m : Fraction
extrapolated_m = extrapolated (whole (pos 0)) 1 (λ i. whole (pos 16))

abbrev extrapolated_outer : Fraction
extrapolated_outer = extrapolated_corner (whole (pos 0)) (whole (pos 16))

-- over 60
extrapolated_numerators : (extrapolated_z (pos 0) 1 (λ i. pos 16) ≡ pos 60 *ℤ negsuc 15) × (extrapolated_corner_z (pos 0) (pos 16) ≡ pos 60 *ℤ negsuc 15)
unfolding sum
extrapolated_numerators = (refl, refl)

abbrev grid_l : ℕ → Fraction
grid_l = wrap 4 (λ (i : ℕ). get_or (whole (pos 0) ∷ whole (pos 16) ∷ whole (pos 0) ∷ extrapolated_m ∷ []) i (whole (pos 0)))

abbrev grid_k : ℕ → Fraction
grid_k = wrap 4 (λ (i : ℕ). get_or (whole (pos 0) ∷ whole (pos 0) ∷ extrapolated_outer ∷ extrapolated_outer ∷ []) i (whole (pos 0)))

abbrev grid_edge : Fraction
grid_edge = inner_edge kobbelt (whole (pos 0)) (whole (pos 16)) (virtual kobbelt 4 grid_l grid_k 1) (virtual kobbelt 4 (λ i. whole (pos 0)) (λ i. whole (pos 0)) 0)

-- "inner edge points have z = 10"
grid_edge_lem : to_whole grid_edge ≡ pos 10
unfolding interior_point extrapolated extrapolated_corner virtual sumᶠ round
grid_edge_lem = refl

-- every boundary edge point has z = 0
abbrev grid_direction : Fraction
grid_direction = direction_one kobbelt (whole (pos 0)) grid_edge (whole (pos 0))

-- "face points z = 6 (100/16)"
grid_face : to_whole (mean_of_both grid_direction grid_direction) ≡ pos 6
unfolding interior_point end_point midpoint extrapolated extrapolated_corner virtual sumᶠ round
grid_face = refl

grid_face_exact : to_whole (16 ×ᶠ mean_of_both grid_direction grid_direction) ≡ pos 100
unfolding interior_point end_point midpoint extrapolated extrapolated_corner virtual sumᶠ round
grid_face_exact = refl
