-- `filter_report::plain_text` meets its contract: a text on a new page. Assumes nothing.
use Rattle.std.proofs.Common.{arith, ◌∙◌, ap, List, ℕ, ◌++◌, length}
use Rattle.filter_report.proofs.Page.{added_is}
use Rattle.filter_report.proofs.plain_text.Goals as goal

pub returns : goal.returns
returns c =
    added_is c.new-page.result c.args.text.now _ (omega (arith, c.requires, ap length c.new-page.ensures)) c.add.ensures
    ∙ ap (λ (l : List ℕ). l ++ c.args.text.now) c.new-page.ensures
