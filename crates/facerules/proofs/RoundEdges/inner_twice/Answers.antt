-- `inner_twice` meets its contract. Assumes nothing.
use native.Mathlib.Omega.{arith}
use mathlib.Core.Path.{sym, ap, ◌∙◌}
use mathlib.Core.Bool.{not}
use Prim.Native.Nat.{ℕ}
use borrow.Author.Tests.{le-ltb}
use lib.Dec.{ltb}
use Rattle.edgeentries.specs.Entry.{boundary_flag}
use Rattle.edgeentries.proofs.Entry.{inner-entry}
use Rattle.facerules.proofs.Directions.{inner_mated, inner_none}
use Rattle.facerules.proofs.RoundEdges.inner_twice.Goals as goal

pub returns-then-mate-self : goal.returns-then-mate-self
returns-then-mate-self c =
    let e = c.mate.ensures in
    let t = c.if-mate-self.true in
    ap not c.is_boundary.ensures ∙ inner-entry c.beyond.result ∙ ap (λ (x : ℕ). ltb x boundary_flag) c.beyond.ensures.0 ∙ sym (inner_mated _ _ _ (omega arith))

pub returns-else-mate-self : goal.returns-else-mate-self
returns-else-mate-self c =
    let e = c.mate.ensures in
    let t = c.if-mate-self.false in
    le-ltb c.mate.result c.args.self.half_edges t ∙ sym (inner_none _ _ _ (omega arith))
