-- `filter_report::faults::printed` meets its contract: the printable characters in front are what is printed. Assumes nothing.
use Rattle.filter_report.proofs.Shown.{printed_at}
use Rattle.filter_report.proofs.faults.printed.Goals as goal

pub returns : goal.returns
returns c = printed_at c.args.line.now _ c.printable.ensures.value
