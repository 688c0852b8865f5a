-- `file_report::report_bad` meets its contract: four texts and a newline stand one behind another on the page. Assumes nothing.
use Rattle.std.proofs.Common.{◌∙◌, ap, ap₂, rules}
use Rattle.text.specs.Page.{added}
use Rattle.file_report.specs.Text.{bad_text}
use Rattle.file_report.proofs.Frames.{bad-added}
use Rattle.file_report.proofs.report_bad.Goals as goal

pub returns : goal.returns
returns c =
    let text =
    c.as_slice.ensures
    ∙ bad-added c.number.result c.carried.result _ _ _ _ _ (search rules) (search rules)
    (c.add.ensures ∙ ap (λ p. added 53 p _) c.new-page.ensures) c.add_decimal.ensures c.add-2.ensures c.add_decimal-2.ensures c.add-3.ensures
    ∙ ap₂ bad_text c.number.ensures c.carried.ensures in
    rw (← text) (c.lay.ensures.result_value, c.lay.ensures.out_after)
