-- `filter_report::line::Format::read_line` meets its contract: a line without a word says nothing. Assumes nothing.
use Rattle.std.proofs.Common.{arith, ◌≡◌, sym, ◌∙◌, ap, rules}
use Rattle.std.specs.Prelude.{Err}
use Rattle.std.proofs.lemmas.Grind.{common_steps}
use Rattle.identifiers.specs.Limits.{limit_of}
use Rattle.filter_report.specs.Line.{word_of}
use Rattle.filter_report.proofs.Scan.{line_none, line_some, line_fault}
use Rattle.filter_report.proofs.line.Format.read_line.Goals as goal

pub returns-in_err-word-in_default : goal.returns-in_err-word-in_default
returns-in_err-word-in_default c =
    let word_is = ap (word_of (limit_of c.args.self.extended) c.args.self.hex) (sym c.unblanked.ensures) ∙ sym c.word.ensures in
    let same : c.from_residual.result ≡ Err c.in_err-word-in_default.field-0.0 = search rules in
    same ∙ line_fault _ c.args.self.hex c.args.line.now _ (grind (arith, common_steps)) (word_is ∙ c.in_err-word-in_default.was)

pub returns-in_ok-word-in_default : goal.returns-in_ok-word-in_default
returns-in_ok-word-in_default c =
    let word_is = ap (word_of (limit_of c.args.self.extended) c.args.self.hex) (sym c.unblanked.ensures) ∙ sym c.word.ensures in
    line_some _ c.args.self.hex c.args.line.now _ (grind (arith, common_steps)) (word_is ∙ c.in_ok-word-in_default.was)

pub returns-in-empty : goal.returns-in-empty
returns-in-empty c = line_none _ c.args.self.hex c.args.line.now (grind (arith, common_steps))

pub returns-in-empty-2 : goal.returns-in-empty-2
returns-in-empty-2 c = line_none _ c.args.self.hex c.args.line.now (grind (arith, common_steps))
