-- `refine_sides` meets its contract. Assumes nothing.
use Prim.Native.Nat.{◌+◌, ◌*◌}
use native.Mathlib.Omega.{arith}
use Rattle.roundmates.proofs.InPlace.{mates_written}
use Rattle.roundmates.proofs.refine_sides.Goals as goal

pub returns : goal.returns
returns g c =
    let h = 4 * c.args.f in
    let firsts = c.requires.firsts.gives in
    mates_written c.args.n c.args.f c.args.work.now _ _ _ _ (omega (arith, c.requires.sides.lt, c.requires.sides.room))
    (rw (firsts (h + 3) 3 _ (omega arith) (omega arith) (omega arith) c.first-s.ensures) at c.put_four.ensures)
    (rw (firsts (h + 2) 2 _ (omega arith) (omega arith) (omega arith) c.first-r.ensures) at c.put_four-2.ensures)
    (rw (firsts (h + 1) 1 _ (omega arith) (omega arith) (omega arith) c.first-q.ensures) at c.put_four-3.ensures)
    (rw (firsts h 0 _ (omega arith) (omega arith) (omega arith) c.first-p.ensures) at c.put_four-4.ensures)
