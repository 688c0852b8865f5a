-- `filter_matcher::miss` meets its contract: in the lower word it is the definition, and above it nothing is left. Assumes nothing.
use native.Mathlib.Omega.{arith}
use Rattle.filter_matcher.proofs.Named.{miss-both}
use Rattle.filter_matcher.proofs.miss.Goals as goal

pub returns : goal.returns
returns c = miss-both c.args.registers c.args.word c.args.named (omega arith) (omega arith)
