-- Virtual points and weights, computed. Assumes nothing.
use mathlib.Core.Path.{◌≡◌, refl}
use mathlib.Core.List.{List, [], ◌∷◌}
use Prim.Native.Nat.{ℕ}
use lib.IntN.{ℤ, pos, negsuc, ◌*ℤ◌}
use lib.ListN.{get_or}
use Rattle.lists.specs.Tabulate.{tabulate}
use Rattle.integers.specs.Sum.{sum}
use Rattle.rounding.specs.Rounding.{round}
use Rattle.curve.specs.Weights.{kobbelt}
use Rattle.fractions.specs.Fraction.{Fraction, whole, sumᶠ, to_whole}
use Rattle.rings.specs.Ring.{wrap, virtual}
use Rattle.rings.specs.RingWeights.{virtual_z, virtual_numerator, weight_l, weight_k}
use Rattle.rings.specs.Scales.{extrapolated_scale, virtual_scale, edge_scale, direction_scale, face_scale}

-- paper 01's cube with corners at ±540: the ring of the corner (-540, -540, -540), second coordinates, from the edge to (540, -540, -540)
abbrev cube_l : List ℤ
cube_l = negsuc 539 ∷ pos 540 ∷ negsuc 539 ∷ []

abbrev cube_k : List ℤ
cube_k = pos 540 ∷ pos 540 ∷ negsuc 539 ∷ []

abbrev ring : ℕ → List ℤ → ℕ → Fraction
ring n l = wrap n (λ (i : ℕ). whole (get_or l i (pos 0)))

cube-virtual : to_whole (virtual kobbelt 3 (ring 3 cube_l) (ring 3 cube_k) 0) ≡ negsuc 139
unfolding virtual sumᶠ round
cube-virtual = refl

-- times 27
abbrev ring_z : ℕ → List ℤ → ℕ → ℤ
ring_z n l = wrap n (λ (i : ℕ). get_or l i (pos 0))

cube-virtual-whole : virtual_z kobbelt 3 (ring_z 3 cube_l) (ring_z 3 cube_k) 0 ≡ negsuc 3779
unfolding virtual_z sum
cube-virtual-whole = refl

-- the weights of n = 3, where one corner counts twice, and of n = 5
weights_three_l : tabulate 3 (weight_l kobbelt 3) ≡ pos 9 ∷ pos 9 ∷ pos 9 ∷ []
unfolding tabulate
weights_three_l = refl

weights_three_k : tabulate 3 (weight_k kobbelt 3) ≡ negsuc 0 ∷ pos 2 ∷ negsuc 0 ∷ []
unfolding tabulate
weights_three_k = refl

weights_five_l : tabulate 5 (weight_l kobbelt 5) ≡ negsuc 8 ∷ negsuc 8 ∷ pos 36 ∷ pos 36 ∷ negsuc 8 ∷ []
unfolding tabulate
weights_five_l = refl

weights_five_k : tabulate 5 (weight_k kobbelt 5) ≡ pos 1 ∷ pos 1 ∷ negsuc 3 ∷ pos 1 ∷ pos 1 ∷ []
unfolding tabulate
weights_five_k = refl

-- ---- the common denominators and ranges at paper 01's weights
scales : (extrapolated_scale ≡ 60) × (virtual_scale kobbelt ≡ 453600) × (edge_scale kobbelt ≡ 7257600) × (direction_scale kobbelt ≡ 116121600) × (face_scale kobbelt ≡ 232243200)
scales = (refl, refl, refl, refl, refl)

-- the virtual point of the cube times 453,600 = 9 · 840 · 60
cube-virtual_numerator : virtual_numerator kobbelt 3 (λ (i : ℕ). pos 60 *ℤ ring_z 3 cube_l i) (λ (i : ℕ). pos 60 *ℤ ring_z 3 cube_k i) 0 ≡ pos 453600 *ℤ negsuc 139
unfolding virtual_z sum
cube-virtual_numerator = refl
