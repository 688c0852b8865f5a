-- `filter_types::single_standard_word` meets its contract: the sum is what the fields laid make. Assumes nothing.
use native.Mathlib.Omega.{arith}
use Rattle.laws.specs.Row.{bit}
use Rattle.filter_types.proofs.Laid.{flag-lt, flag-is, laid-single-standard}
use Rattle.filter_types.proofs.single_standard_word.Goals as goal

pub returns : goal.returns
returns c =
    omega (
      arith,
      c.from.ensures,
      c.from-2.ensures,
      c.from-3.ensures,
      c.from-4.ensures,
      c.requires,
      flag-is c.args.rtr,
      flag-lt c.args.rtr,
      laid-single-standard c.args.id.0 (bit c.args.rtr) c.args.first c.args.second c.requires (flag-lt c.args.rtr) (omega arith) (omega arith),
    )
