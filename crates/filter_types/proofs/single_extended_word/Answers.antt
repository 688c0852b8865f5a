-- `filter_types::single_extended_word` meets its contract: the sum is what the fields laid make. Assumes nothing.
use native.Mathlib.Omega.{arith}
use Rattle.laws.specs.Row.{bit}
use Rattle.filter_types.proofs.Laid.{flag-lt, flag-is, laid-single-extended}
use Rattle.filter_types.proofs.single_extended_word.Goals as goal

pub returns : goal.returns
returns c =
    omega (
      arith,
      c.from.ensures,
      c.requires,
      flag-is c.args.rtr,
      flag-lt c.args.rtr,
      laid-single-extended c.args.id.0 (bit c.args.rtr) c.requires (flag-lt c.args.rtr),
    )
