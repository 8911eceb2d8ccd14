-- Edges in the work table w of n half-edges during a round: the mate of h stands at h, the entry of its edge at n + h, and from 2n on the exact points of the
-- edges, six numbers each. An entry is the number of the edge and a flag.
use Rattle.std.specs.Prelude.{cond, List, ℕ, ◌+◌, ◌*◌, ◌%◌, ltb, ℤ, pos, ◌*ℤ◌, get_or, set}
use Rattle.curve.specs.Weights.{Weights}
use Rattle.rings.specs.Scales.{virtual_scale}
use Rattle.edgeentries.specs.Packed.{packed_at, put_three}

-- an inner edge whose point is kept over `edge_scale`, and a boundary edge; other inner edges have no flag. Edge numbers are smaller.
abbrev pub wide_flag : ℕ
wide_flag = 536870912

abbrev pub boundary_flag : ℕ
boundary_flag = 1073741824

-- the entry of the edge of h
unfoldable pub entry_of : (n : ℕ) (w : List ℕ) (h : ℕ) → ℕ
entry_of n w h = get_or w (n + h) 0

-- where the exact point of an edge stands, by its number; the number of an edge, and that place, by its entry
abbrev pub point_place : (n number : ℕ) → ℕ
point_place n number = 2 * n + 6 * number

abbrev pub edge_of : ℕ → ℕ
edge_of entry = entry % wide_flag

unfoldable pub place_of : (n entry : ℕ) → ℕ
place_of n entry = point_place n (edge_of entry)

-- w with the entry and the exact point of the edge of h; and with the entry of m for h too
abbrev pub put_edge : (n : ℕ) → List ℕ → (h number flag : ℕ) (x y z : ℤ) → List ℕ
put_edge n w h number flag x y z = set (put_three w (point_place n number) x y z) (n + h) (number + flag)

abbrev pub copied : (n : ℕ) → List ℕ → (m h : ℕ) → List ℕ
copied n w m h = set w (n + h) (get_or w (n + m) 0)

-- what makes a stored numerator one over `edge_scale`: those of edges that are not wide are kept over `scale`
unfoldable pub unit_of : Weights → ℕ → ℕ
unit_of weights entry = cond (ltb entry wide_flag) (virtual_scale weights) (cond (ltb entry boundary_flag) 1 (virtual_scale weights))

-- coordinate a of the exact point of an entry, over `edge_scale`; and of the edge of h
unfoldable pub exact_at : Weights → (n : ℕ) (w : List ℕ) (a entry : ℕ) → ℤ
exact_at weights n w a entry = pos (unit_of weights entry) *ℤ packed_at w (place_of n entry + 2 * a)

unfoldable pub exact_of : Weights → (n : ℕ) (w : List ℕ) (a h : ℕ) → ℤ
exact_of weights n w a h = exact_at weights n w a (entry_of n w h)
