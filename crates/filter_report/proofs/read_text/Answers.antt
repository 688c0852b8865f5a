-- `filter_report::read_text` meets its contract: what is read has its text. Assumes nothing.
use Rattle.std.proofs.Common.{arith, take, length-take-le}
use Rattle.identifiers.specs.Limits.{limit_of}
use Rattle.filter_report.proofs.Listed.{all-within}
use Rattle.filter_report.proofs.read_text.Goals as goal

pub list_text-requires : goal.list_text-requires
list_text-requires c =
    let list = c.read_list.new.list in
    let count = c.in-Ok.count in
    let read = c.in-Ok.ensures in
    (omega (arith, length-take-le count list read.1, read.1, c.read_list.auto.list), all-within (limit_of c.args.format.extended) c.args.format.hex c.args.text.now (take count list) read.0)
