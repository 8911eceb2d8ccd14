-- Sums of a ring by weights: w is a row of the table, p a coordinate of the vertices, L and K begin with neighbours and opposite corners.
use Rattle.std.specs.Prelude.{cond, List, ℕ, ◌+◌, ◌-◌, ◌*◌, ◌/◌, ◌<◌, ltb, ℤ, pos, ◌+ℤ◌, ◌*ℤ◌, get_or}
use Rattle.integers.specs.Sum.{sum}
use Rattle.curve.specs.Weights.{Weights}
use Rattle.rings.specs.RingWeights.{row}
use Rattle.rings.specs.Scales.{extrapolated_scale, valence_scale, coordinate_range}
use Rattle.coordinates.specs.Points.{InTable}
use Rattle.ringsums.specs.declared.Fan.{Fan}

-- the first n vertices of L are in the table t
pub record VerticesIn (t : List ℤ) (n : ℕ) (L : List ℕ) : Type 0 where
  pub room : (i : ℕ) → i < n → InTable t (get_or L i 0)

-- those of a fan are
pub record FanIn (t : List ℤ) (f : Fan) : Type 0 where
  pub neighbours : VerticesIn t f.count f.neighbours
  pub opposites : VerticesIn t f.count f.opposites

-- no weight of the table exceeds 144 at a tension, and the sixteen of a ring make of coordinates no more than this
abbrev pub weight_range : ℕ
weight_range = 144

abbrev pub sum_range : ℕ
sum_range = 16 * weight_range * coordinate_range

-- the neighbour x and the opposite corner y by the weights at place d
abbrev pub weighed : List ℤ → ℕ → ℤ → ℤ → ℤ
weighed w d x y = get_or w d (pos 0) *ℤ x +ℤ get_or w (8 + d) (pos 0) *ℤ y

-- the place s of a ring of n places, where s is less than twice round
unfoldable pub place_on : ℕ → ℕ → ℕ
place_on n s = cond (ltb s n) s (s - n)

-- the first m neighbours and opposite corners, which take the places from e on
abbrev pub weighted_sum : List ℤ → (n e m : ℕ) → (ℕ → ℤ) → List ℕ → List ℕ → ℤ
weighted_sum w n e m p L K = sum m (λ (i : ℕ). weighed w (place_on n (e + i)) (p (get_or L i 0)) (p (get_or K i 0)))

-- the numerator of the virtual point of a full ring of n; and of a fan closed to a ring of n, s being the sum over its faces, x the neighbour and y the corner at
-- place t, x' and y' those at the next
abbrev pub ring_sum : (n : ℕ) → ℤ → ℤ
ring_sum n s = pos (valence_scale / n) *ℤ (pos extrapolated_scale *ℤ s)

abbrev pub fan_sum : List ℤ → (n t : ℕ) → (s x y x' y' : ℤ) → ℤ
fan_sum w n t s x y x' y' = pos (valence_scale / n) *ℤ (pos extrapolated_scale *ℤ s +ℤ weighed w t x y +ℤ weighed w (t + 1) x' y')

-- on edge j of a fan of m faces, closed with its last neighbour c and the extrapolated points P of its vertex, C of c and B of its first neighbour
abbrev pub fan_on : Weights → (ℕ → ℤ) → List ℕ → List ℕ → (m j c : ℕ) → (P C B : ℤ) → ℤ
fan_on weights p L K m j c P C B =
    let n = m + 2 in
    fan_sum (row weights n) n (m - j) (weighted_sum (row weights n) n (n - j) m p L K) (pos extrapolated_scale *ℤ p c) C P B
