-- `final_faces` meets its contract: six rounds of 4,096 faces at the most. Assumes nothing.
use Prim.Native.Nat.{◌*◌, ◌^◌, ◌≤◌}
use native.Mathlib.Nat.{pow-le-pow_right}
use native.Mathlib.Omega.{arith}
use Rattle.std.proofs.lemmas.Nat.{mul-le}
use Rattle.bounds.specs.Bounds.{max_rounds}
use Rattle.limits.proofs.final_faces.Goals as goal

pub pow-requires : goal.pow-requires
pow-requires c = let p : 4 ^ c.args.rounds ≤ 4 ^ max_rounds = pow-le-pow_right {n = 4} (omega arith) c.if-faces-gt-MAX_FACES.false.0 in omega arith

pub overflow_mul-result : goal.overflow_mul-result
overflow_mul-result c =
    let p : 4 ^ c.args.rounds ≤ 4 ^ max_rounds = pow-le-pow_right {n = 4} (omega arith) c.if-faces-gt-MAX_FACES.false.0 in
    let m : c.args.faces * c.pow.result ≤ 4096 * 4096 = mul-le c.args.faces c.pow.result 4096 4096 c.if-faces-gt-MAX_FACES.false.1 (omega arith) in
    omega arith

pub returns-else-faces-gt-MAX_FACES : goal.returns-else-faces-gt-MAX_FACES
returns-else-faces-gt-MAX_FACES c =
    let p : 4 ^ c.args.rounds ≤ 4 ^ max_rounds = pow-le-pow_right {n = 4} (omega arith) c.if-faces-gt-MAX_FACES.false.0 in
    let m : c.args.faces * c.pow.result ≤ 4096 * 4096 = mul-le c.args.faces c.pow.result 4096 4096 c.if-faces-gt-MAX_FACES.false.1 (omega arith) in
    record { few = omega arith; final = λ a b. cc }
