-- `tables::clear_from` meets its contract: what lies outside the filled part stays. Assumes nothing.
use Rattle.std.proofs.Common.{rules, ◌+◌, ◌-◌, ◌≡◌, length, arith}
use Rattle.std.proofs.lemmas.Slice.{take-put_mid_below, drop-put_mid}
use Rattle.tables.proofs.clear_from.Goals as goal

pub returns-clause-same_outside : goal.returns-clause-same_outside
returns-clause-same_outside c =
    let e : length c.fill.new.self ≡ c.args.at + c.args.n - c.args.at = search rules in
    record {
      front = take-put_mid_below c.args.at (c.args.at + c.args.n - c.args.at) c.args.work.now c.fill.new.self c.args.at (omega arith) (search rules);
      rest = drop-put_mid c.args.at (c.args.at + c.args.n - c.args.at) c.args.work.now c.fill.new.self (c.args.at + c.args.n) (omega arith) (search rules) e;
    }
