-- `filter_matcher::shown::named_single` meets its contract: the constant for each data length. Assumes nothing.
use native.Mathlib.Omega.{arith}
use Rattle.filter_matcher.proofs.Rows.{single-none, single-one, single-two}
use Rattle.filter_matcher.proofs.shown.named_single.Goals as goal

pub returns-in-0 : goal.returns-in-0
returns-in-0 c = single-none c.args.bytes (omega arith)

pub returns-in-1 : goal.returns-in-1
returns-in-1 c = single-one c.args.bytes (omega arith)

pub returns-in_default : goal.returns-in_default
returns-in_default c = single-two c.args.bytes (λ e. omega arith) (λ e. omega arith)
