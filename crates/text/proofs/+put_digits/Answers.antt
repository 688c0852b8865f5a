-- `text::put_digits` meets its contract: the digits of the hundredth, and the last two behind them. Assumes nothing.
use lib.ListN.{length-set}
use native.Mathlib.Omega.{arith}
use Rattle.text.proofs.Decimal.{small-long, pair-long, steps-long, put_small, put-pair, put-steps}
use Rattle.text.proofs.+put_digits.Goals as goal

pub bounds-out-at : goal.bounds-out-at
bounds-out-at t c = omega (arith, small-long c.args.n c.if-n-lt10.true)

pub returns-then-n-lt10 : goal.returns-then-n-lt10
returns-then-n-lt10 t c = (omega (arith, small-long c.args.n c.if-n-lt10.true), put_small c.args.at c.args.n c.args.out.now c.if-n-lt10.true (omega arith))

pub bounds-out-at-then-tenth-lt10 : goal.bounds-out-at-then-tenth-lt10
bounds-out-at-then-tenth-lt10 t c = omega (arith, pair-long c.args.n c.if-n-lt10.false c.if-tenth-lt10.true)

pub bounds-out-at-then-tenth-lt10-2 : goal.bounds-out-at-then-tenth-lt10-2
bounds-out-at-then-tenth-lt10-2 t c = rw (length-set) (omega (arith, pair-long c.args.n c.if-n-lt10.false c.if-tenth-lt10.true))

pub returns-then-tenth-lt10 : goal.returns-then-tenth-lt10
returns-then-tenth-lt10 t c = (omega (arith, pair-long c.args.n c.if-n-lt10.false c.if-tenth-lt10.true), put-pair c.args.at c.args.n c.args.out.now c.if-n-lt10.false c.if-tenth-lt10.true (omega arith))

pub put_digits-last-requires : goal.put_digits-last-requires
put_digits-last-requires t c = (omega (arith, c.requires), omega (arith, steps-long c.args.n c.if-n-lt10.false c.if-tenth-lt10.false))

pub bounds-out-last : goal.bounds-out-last
bounds-out-last t c = omega (arith, c.put_digits-last.ensures.0, c.put_digits-last.auto.out, steps-long c.args.n c.if-n-lt10.false c.if-tenth-lt10.false)

pub bounds-out-last-2 : goal.bounds-out-last-2
bounds-out-last-2 t c = rw (length-set) (omega (arith, c.put_digits-last.ensures.0, c.put_digits-last.auto.out, steps-long c.args.n c.if-n-lt10.false c.if-tenth-lt10.false))

pub returns : goal.returns
returns t c = (omega (arith, c.put_digits-last.ensures.0, steps-long c.args.n c.if-n-lt10.false c.if-tenth-lt10.false), put-steps c.args.at c.args.n _ c.args.out.now _ c.if-n-lt10.false c.if-tenth-lt10.false (omega arith) c.put_digits-last.ensures.0 c.put_digits-last.ensures.1)
