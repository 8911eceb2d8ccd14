-- The limits of papers 01 and 02, each by one name; in code they are the constants of this crate.
use Rattle.std.specs.Prelude.{ℕ, ◌*◌, ◌^◌}

-- 1: "rounds above 6."
abbrev pub max_rounds : ℕ
max_rounds = 6

-- 3: "V above 8,192, F above 4,096, or G above 262,144."
abbrev pub max_vertices : ℕ
max_vertices = 8192

abbrev pub max_faces : ℕ
max_faces = 4096

abbrev pub max_refined_faces : ℕ
max_refined_faces = 262144

-- 5: "a coordinate outside -1,048,576 to 1,048,576"
abbrev pub max_coordinate : ℕ
max_coordinate = 1048576

-- 11: "a ring of fewer than 3 or more than 8 faces, or a fan of more than 6"
abbrev pub min_ring : ℕ
min_ring = 3

abbrev pub max_ring : ℕ
max_ring = 8

abbrev pub max_fan : ℕ
max_fan = 6

-- 15: "the tally after the call would be above 4,000,000,000"
abbrev pub max_tally : ℕ
max_tally = 4000000000

-- ---- what follows from them
-- corners where refining begins: four for each face
abbrev pub max_corners : ℕ
max_corners = 4 * max_faces

-- half-edges of a net that is refined once more: each gives a refined face
abbrev pub max_half_edges : ℕ
max_half_edges = max_refined_faces

-- corners after all rounds
abbrev pub max_refined_corners : ℕ
max_refined_corners = 4 * max_refined_faces

-- F × 4^k where F and k are within their limits, whatever G's limit
abbrev pub max_product : ℕ
max_product = max_faces * 4 ^ max_rounds
