-- `filter_types::dual_standard_word` meets its contract: the sum is what the fields laid make. Assumes nothing.
use native.Mathlib.Omega.{arith}
use Rattle.laws.specs.Row.{bit}
use Rattle.filter_types.proofs.Laid.{flag-lt, flag-is, laid-dual-standard}
use Rattle.filter_types.proofs.dual_standard_word.Goals as goal

pub returns : goal.returns
returns c =
    let start = c.args in
    omega (
      arith,
      c.from-high.ensures,
      c.from-low.ensures,
      c.from.ensures,
      c.from-2.ensures,
      c.from-3.ensures,
      c.from-4.ensures,
      c.requires.0,
      c.requires.1,
      flag-is start.first_rtr,
      flag-lt start.first_rtr,
      flag-is start.second_rtr,
      flag-lt start.second_rtr,
      laid-dual-standard start.first.0 (bit start.first_rtr) start.payload start.second.0 (bit start.second_rtr) c.requires.0 (flag-lt start.first_rtr) (omega arith)
          c.requires.1 (flag-lt start.second_rtr),
    )
