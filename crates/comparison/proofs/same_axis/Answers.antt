-- `same_axis` meets its contract: the machine compares bit patterns. Assumes nothing.
use Prim.Native.Nat.{◌+◌, ◌*◌}
use lib.IntN.{pos}
use lib.ListN.{get_or}
use borrow.Author.Rules.{rules}
use Rattle.nets.specs.Net.{axis}
use Rattle.seamtest.specs.SeamTest.{same_axis}
use Rattle.comparison.proofs.Equal.{equal_32}
use Rattle.comparison.proofs.same_axis.Goals as goal

pub returns : goal.returns
unfolding same_axis axis
returns c =
    let a = c.args in
    equal_32 (get_or a.a.now (3 * a.u + a.axis) (pos 0)) (get_or a.b.now (3 * a.v + a.axis) (pos 0)) (search rules) (search rules)
