-- Integers within 2^55 of zero as pairs of 32-bit numbers in a table.
use Rattle.std.specs.Prelude.{◌≡◌, List, ℕ, ◌+◌, ◌*◌, ◌/◌, ◌%◌, ◌^◌, ◌<◌, ℤ, pos, nat_abs, ◌+ℤ◌, ◌-ℤ◌, get_or, set}

-- z + 2^56 + 2^31, which is natural
unfoldable pub biased : ℤ → ℕ
biased z = nat_abs (z +ℤ pos 72057596185411584)

-- its halves, and the number whose halves they are
unfoldable pub low_half : ℤ → ℕ
low_half z = biased z % 4294967296

unfoldable pub high_half : ℤ → ℕ
high_half z = biased z / 4294967296

unfoldable pub joined : ℕ → ℕ → ℤ
joined lo hi = pos (hi * 4294967296 + lo) -ℤ pos 72057596185411584

-- the number at place i of w, as it is packed and as it is
unfoldable pub biased_at : List ℕ → ℕ → ℤ
biased_at w i = pos (get_or w (i + 1) 0 * 4294967296 + get_or w i 0)

unfoldable pub packed_at : List ℕ → ℕ → ℤ
packed_at w i = joined (get_or w i 0) (get_or w (i + 1) 0)

-- w with z at place i; and with three numbers from i on
unfoldable pub put : List ℕ → ℕ → ℤ → List ℕ
put w i z = set (set w i (low_half z)) (i + 1) (high_half z)

unfoldable pub put_three : List ℕ → ℕ → ℤ → ℤ → ℤ → List ℕ
put_three w i x y z = put (put (put w i x) (i + 2) y) (i + 4) z

-- w has z at place i, and z is within 2^55 of zero
pub record Holds (w : List ℕ) (i : ℕ) (z : ℤ) : Type 0 where
  pub low : get_or w i 0 ≡ low_half z
  pub high : get_or w (i + 1) 0 ≡ high_half z
  pub small : nat_abs z < 2 ^ 55
