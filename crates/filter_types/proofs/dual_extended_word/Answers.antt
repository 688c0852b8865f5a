-- `filter_types::dual_extended_word` meets its contract: the sum is what the fields laid make. Assumes nothing.
use native.Mathlib.Omega.{arith}
use Rattle.filter_types.proofs.Laid.{laid-dual-extended}
use Rattle.filter_types.proofs.dual_extended_word.Goals as goal

pub returns : goal.returns
returns c =
    omega (arith, c.from.ensures, c.from-2.ensures, laid-dual-extended c.args.first c.args.second (omega arith) (omega arith))
