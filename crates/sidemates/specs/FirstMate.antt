-- The mate of a refined side, from that of the half-edge that it is half of.
use Rattle.std.specs.Prelude.{cond, ℕ, ◌+◌, ◌*◌, ltb}
use Rattle.topology.specs.Shape.{quads}

-- the mate of side 0 of a refined face at a half-edge with the mate m, of n half-edges
unfoldable pub first_mate : ℕ → ℕ → ℕ
first_mate n m = cond (ltb m n) (4 * quads.next m + 3) (4 * n)
