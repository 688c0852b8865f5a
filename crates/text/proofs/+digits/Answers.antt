-- `text::digits` meets its contract: a number has one digit more than its tenth, which is what the recursion goes down by. Assumes nothing.
use mathlib.Core.Path.{sym}
use native.Mathlib.Omega.{arith}
use Rattle.text.proofs.Decimal.{step-long, small-long}
use Rattle.text.proofs.+digits.Goals as goal

pub returns-then-n-lt10 : goal.returns-then-n-lt10
returns-then-n-lt10 t c = (sym (small-long c.args.n c.if-n-lt10.true), omega arith)

pub returns : goal.returns
returns t c = (omega (arith, c.digits.ensures.0, step-long c.args.n c.if-n-lt10.false), omega (arith, c.digits.ensures.1))
