-- `link_faces` meets its contract. Assumes nothing.
use mathlib.Core.Path.{◌∙◌}
use Prim.Native.Nat.{◌*◌}
use native.Mathlib.Omega.{arith}
use lib.ListN.{length}
use Rattle.lists.proofs.Parts.{drop_later}
use Rattle.adjacency.proofs.Chains.{tables_kept}
use Rattle.adjacency.proofs.link_faces.Goals as goal

pub build_mates-requires-clause-tables : goal.build_mates-requires-clause-tables
build_mates-requires-clause-tables c = tables_kept c.args.sides.now c.args.faces.now c.args.work.now _ (3 * length c.args.faces.now) (omega arith) c.build_chains.auto.work c.build_chains.ensures.same_outside.rest c.requires

pub returns-clause-work_unchanged : goal.returns-clause-work_unchanged
returns-clause-work_unchanged c =
    let n = length c.args.faces.now in drop_later n (3 * n) _ _ (omega arith) c.build_mates.ensures.work_unchanged ∙ c.build_chains.ensures.same_outside.rest
