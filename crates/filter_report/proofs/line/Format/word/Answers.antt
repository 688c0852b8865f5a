-- `filter_report::line::Format::word` meets its contract: the number behind `0x`, or all of the word. Assumes nothing.
use Rattle.std.proofs.Common.{ap, ◌∙◌}
use Rattle.identifiers.specs.Limits.{limit_of}
use Rattle.filter_report.specs.Line.{number_of}
use Rattle.filter_report.proofs.Scan.{word_hex, word_bare}
use Rattle.filter_report.proofs.line.Format.word.Goals as goal

pub returns-in-Some : goal.returns-in-Some
returns-in-Some c =
    let found = c.in-Some.ensures.cases in
    let hex = c.args.self.hex in
    c.number.ensures ∙ ap (number_of (limit_of c.args.self.extended) hex _) found.1 ∙ word_hex _ hex c.args.word.now found.0

pub returns-in-None : goal.returns-in-None
returns-in-None c = c.number-in-None.ensures ∙ word_bare _ c.args.self.hex c.args.word.now c.in-None.ensures.cases
