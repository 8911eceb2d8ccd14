-- How far a coordinate can grow: a round takes B to at most 55/24 B + 1/2, and six rounds from 1,048,576 stay within 268,435,456. Assumes nothing.
use mathlib.Core.Bool.{Bool}
use Prim.Native.Nat.{ℕ, zero, suc, ◌+◌, ◌*◌, ◌/◌, ◌≤◌, ◌<◌}
use native.Mathlib.Nat.{mul-add, mul_left_comm, le_of_mul-le-mul_left}
use native.Mathlib.Omega.{arith}
use lib.Dec.{leb, leb→le}
use lib.IntN.{ℤ, nat_abs}
use Rattle.bounds.specs.Bounds.{max_rounds, max_coordinate}
use Rattle.lists.proofs.Table.{below_at}
use Rattle.rounding.specs.Rounding.{round}
use Rattle.rounding.proofs.Laws.{round_size}
use Rattle.rings.specs.Scales.{coordinate_range}

-- the bound after one more round
abbrev pub grown : ℕ → ℕ
grown B = (55 * B + 12) / 24

-- a value of at most 55/24 B, rounded
pub rounded-grown : (z : ℤ) (D B : ℕ) → 0 < D → 24 * nat_abs z ≤ D * (55 * B) → nat_abs (round z D) ≤ grown B
rounded-grown z D B h k =
    let a = round_size z D h in
    let e = mul_left_comm D 24 (nat_abs (round z D)) in
    let f = mul-add D (55 * B) 12 in
    let g : 24 * nat_abs (round z D) ≤ 55 * B + 12 = le_of_mul-le-mul_left {k = D} (omega arith) h in
    omega arith

-- an old point stays within the new bound
pub grown_kept : (B : ℕ) → B ≤ grown B
grown_kept B = omega arith

-- the bound after k rounds
unfoldable pub limit : ℕ → ℕ
limit zero = max_coordinate
limit (suc k) = grown (limit k)

-- what a round is given
inputs : ℕ → Bool
unfolding limit
inputs k = leb (limit k) coordinate_range

pub limit_input : (k : ℕ) → k ≤ 5 → limit k ≤ coordinate_range
unfolding inputs
limit_input k h = leb→le (limit k) coordinate_range (below_at 6 inputs tt k (omega arith))

-- what it gives. Paper 01: "every coordinate stays within 268,435,456"
outputs : ℕ → Bool
unfolding limit
outputs k = leb (limit k) 268435456

pub limit_output : (k : ℕ) → k ≤ max_rounds → limit k ≤ 268435456
unfolding outputs
limit_output k h = leb→le (limit k) 268435456 (below_at 7 outputs tt k (omega arith))
