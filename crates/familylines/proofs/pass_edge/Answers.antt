-- `pass_edge` meets its contract. Assumes nothing.
use mathlib.Core.Path.{refl, ap, ◌∙◌}
use Prim.Native.Nat.{ℕ}
use native.Mathlib.Omega.{arith}
use lib.ListN.{length}
use Rattle.edgeentries.specs.Entry.{copied}
use Rattle.edgetable.specs.EdgeTable.{passed}
use Rattle.familylines.proofs.Going.{turned_carries}
use Rattle.familylines.proofs.pass_edge.Goals as goal

pub returns : goal.returns
returns c =
    let a = c.requires.2 in
    let e = c.requires.1 in
    turned_carries _ _ _ _ _ _ _ _ _ _ c.requires.3
    (passed (omega arith) refl refl (c.copy_entry.ensures ∙ ap (λ (m : ℕ). copied (length c.args.faces.now) c.args.work.now m c.args.h) e))
