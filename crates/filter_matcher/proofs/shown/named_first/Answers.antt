-- `filter_matcher::shown::named_first` meets its contract: the constant for each data length. Assumes nothing.
use native.Mathlib.Omega.{arith}
use Rattle.filter_matcher.proofs.Rows.{dual-some, dual-none}
use Rattle.filter_matcher.proofs.shown.named_first.Goals as goal

pub returns-then-bytes-gt0 : goal.returns-then-bytes-gt0
returns-then-bytes-gt0 c = dual-some _ c.if-bytes-gt0.true

pub returns-else-bytes-gt0 : goal.returns-else-bytes-gt0
returns-else-bytes-gt0 c = dual-none c.args.bytes (omega (arith, c.if-bytes-gt0.false))
