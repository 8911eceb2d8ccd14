-- The weights of the four-point scheme, and the three boundary rules as numerators over one denominator.
use Rattle.std.specs.Prelude.{ℕ, ◌+◌, ◌-◌, ◌*◌, ℤ, pos, ◌+ℤ◌, ◌-ℤ◌, ◌*ℤ◌}

-- the weights of the two near points and of the two far ones
pub record Weights : Type 0 where
  pub near : ℕ
  pub far : ℕ

-- document 000 at weight ω = 1: 9, 9 and -1, -1 over 16
abbrev pub kobbelt : Weights
kobbelt = record { near = 9; far = 1 }

-- Paper 02: a tension t from 0 to 4, with ω = t/4: "four-point weights (8+ω)/16 and -ω/16", which are 32 + t and -t over 64; "ω/(8+ω) for the 1/9" is far / near
abbrev pub tension : ℕ → Weights
tension t = record { near = 32 + t; far = t }

-- the denominator: 16, and 64 at a tension. Up to tension 4 far is at most a ninth of near, so no difference below is cut off at 0
abbrev pub scale : Weights → ℕ
scale w = 2 * (w.near - w.far)

-- Paper 01: "for consecutive points p, q, r, s the point on qr is (9(q + r) - p - s)/16"; paper 02: "four-point weights (8+ω)/16 and -ω/16"
abbrev pub interior : Weights → ℤ → ℤ → ℤ → ℤ → ℤ
interior w p q r s = pos w.near *ℤ (q +ℤ r) -ℤ pos w.far *ℤ (p +ℤ s)

-- "On an end edge p0 p1 followed by p2: (7 p0 + 10 p1 - p2)/16"; paper 02: "end edge (8-ω)/16, (8+2ω)/16, -ω/16"
abbrev pub end_edge : Weights → ℤ → ℤ → ℤ → ℤ
end_edge w p q r = pos (w.near - 2 * w.far) *ℤ p +ℤ pos (w.near + w.far) *ℤ q -ℤ pos w.far *ℤ r

-- "A stretch of one edge: the midpoint"; "for a midpoint 8(q + r)" over 16
abbrev pub single_edge : Weights → ℤ → ℤ → ℤ
single_edge w p q = pos (w.near - w.far) *ℤ (p +ℤ q)

-- q mirrored at p. The rules of an end edge and of a single edge are the interior rule with mirrored points where a segment ends: `end_mirrored`, `single_mirrored`
abbrev pub mirror : ℤ → ℤ → ℤ
mirror p q = pos 2 *ℤ p -ℤ q
