use Rattle.std.proofs.Common.{arith}
use Rattle.std.proofs.lemmas.Grind.{common_steps}
use Rattle.filter_report.proofs.Scan.{closes_mark, closes_other}
use Rattle.filter_report.proofs.line.Format.closes.Goals as goal

pub returns-in-35 : goal.returns-in-35
returns-in-35 c = grind (arith, common_steps, closes_mark)

pub returns-in_default : goal.returns-in_default
returns-in_default c = grind (arith, common_steps, closes_other)
