-- `decimal::put_natural` meets its contract. Assumes nothing.
use Rattle.std.proofs.Common.{length, ap, arith}
use Rattle.decimalform.proofs.Writing.{text_small, length_large, stored_small, stored_large}
use Rattle.decimal.proofs.+put_natural.Goals as goal

pub bounds-out-at : goal.bounds-out-at
bounds-out-at t c = let l = ap length (text_small c.args.n c.if-n-lt10.true) in omega arith

pub returns-then-n-lt10 : goal.returns-then-n-lt10
returns-then-n-lt10 t c = stored_small _ _ _ c.if-n-lt10.true

pub put_natural-end-requires : goal.put_natural-end-requires
put_natural-end-requires t c = let l = length_large c.args.n c.if-n-lt10.false in (omega arith, omega arith)

pub bounds-out-end : goal.bounds-out-end
bounds-out-end t c = let l = length_large c.args.n c.if-n-lt10.false in let k = c.put_natural-end.auto.out in omega arith

pub overflow_add-result-2 : goal.overflow_add-result-2
overflow_add-result-2 t c = let l = length_large c.args.n c.if-n-lt10.false in omega arith

pub returns : goal.returns
returns t c = stored_large _ _ _ _ _ c.if-n-lt10.false c.put_natural-end.ensures
