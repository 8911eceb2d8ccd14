-- The common denominators of the exact points of a round, over the weights, and the ranges of their numerators. The numbers in brackets are those at a tension t.
use Rattle.std.specs.Prelude.{ℕ, ◌*◌, ◌/◌}
use Rattle.curve.specs.Weights.{Weights, scale}

-- ---- denominators
-- of extrapolated points and of the rings that are built from them: the 1 to 5 inner edges of a fan divide it
abbrev pub extrapolated_scale : ℕ
extrapolated_scale = 60

-- what the valences of rings, 3 to 8, divide
abbrev pub valence_scale : ℕ
valence_scale = 840

-- of virtual points (50,400 (32 + t) at tension t)
abbrev pub virtual_scale : Weights → ℕ
virtual_scale w = w.near * (valence_scale * extrapolated_scale)

-- of edge points (3,225,600 (32 + t)); points on boundary edges, and on inner edges between ordinary vertices, are exact over `scale` (64)
abbrev pub edge_scale : Weights → ℕ
edge_scale w = scale w * virtual_scale w

-- of a direction of a face (206,438,400 (32 + t)), and of a face point (twice that)
abbrev pub direction_scale : Weights → ℕ
direction_scale w = scale w * edge_scale w

abbrev pub face_scale : Weights → ℕ
face_scale w = 2 * direction_scale w

-- ---- ranges
-- the largest coordinate that a round is given
abbrev pub coordinate_range : ℕ
coordinate_range = 67108864

-- extrapolated points are within three times it, virtual points within 17/3, edge points within 11/6, directions within 55/24
abbrev pub extrapolated_range : ℕ
extrapolated_range = 3 * extrapolated_scale * coordinate_range

abbrev pub virtual_range : Weights → ℕ
virtual_range w = virtual_scale w / 3 * 17 * coordinate_range

abbrev pub edge_range : Weights → ℕ
edge_range w = edge_scale w / 6 * 11 * coordinate_range

abbrev pub direction_range : Weights → ℕ
direction_range w = scale w / 4 * 5 * edge_range w
