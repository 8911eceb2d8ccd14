-- `clear_chains` meets its contract: every head is none, and what lies outside the heads stays. Assumes nothing.
use Rattle.std.proofs.Common.{rules, ◌-◌, ◌*◌, ◌≡◌, length, arith}
use Rattle.std.proofs.lemmas.List.{places}
use Rattle.std.proofs.lemmas.Slice.{take-put_mid_below, drop-put_mid}
use Rattle.adjacency.proofs.Chains.{chained_none}
use Rattle.adjacency.proofs.clear_chains.Goals as goal

pub returns-clause-chained : goal.returns-clause-chained
returns-clause-chained c = chained_none _ _ (λ v h. rw (c.fill.ensures.after (search rules)) (search (rules, places)))

pub returns-clause-same_outside : goal.returns-clause-same_outside
returns-clause-same_outside c =
    let n = length c.args.faces.now in
    let e : length c.fill.new.self ≡ 2 * n - n = search rules in
    record {
      front = take-put_mid_below n (2 * n - n) c.args.work.now c.fill.new.self n (omega arith) (omega (arith, c.requires.room));
      rest = drop-put_mid n (2 * n - n) c.args.work.now c.fill.new.self (2 * n) (omega arith) (omega (arith, c.requires.room)) e;
    }
