-- `filter_report::through::Passed::put_rest` meets its contract: what is not listed is as much as is let through, less one for each different entry. Assumes nothing.
use Rattle.std.proofs.Common.{arith, ◌≡◌, ◌<◌, ◌≤◌, ◌-◌, ◌∙◌, ap, List, ℕ, ◌++◌, length}
use Rattle.laws.specs.Ascii.{ascii}
use Rattle.text.specs.Decimal.{decimal}
use Rattle.text.proofs.Decimal.{decimal-long}
use Rattle.filter_report.specs.Through.{not_listed}
use Rattle.filter_report.proofs.Page.{added_is, behind, long}
use Rattle.filter_report.proofs.Unlisted.{rest-none, rest-few, rest-many}
use Rattle.filter_report.proofs.through.Passed.put_rest.Goals as goal

pub returns-then-others-eq0 : goal.returns-then-others-eq0
returns-then-others-eq0 c =
    let page = c.args.page.now in
    let rest = not_listed c.args.self.now.pattern.now c.args.list.now in
    let none : length rest ≡ 0 = omega (arith, c.requires.0, c.different.ensures, c.if-others-eq0.true) in
    added_is page (ascii " none") c.add.new.self (omega (arith, c.requires.2)) c.add.ensures ∙ ap (λ (l : List ℕ). page ++ l) (rest-none c.args.extended rest none)

pub returns-then-others-le-NAMED_LIMIT : goal.returns-then-others-le-NAMED_LIMIT
returns-then-others-le-NAMED_LIMIT c =
    let rest = not_listed c.args.self.now.pattern.now c.args.list.now in
    let some : (length rest ≡ 0 → ⊥) = λ e. c.if-others-eq0.false (omega (arith, c.requires.0, c.different.ensures, e)) in
    let few : length rest ≤ 16 = omega (arith, c.requires.0, c.different.ensures, c.if-others-le-NAMED_LIMIT.true) in
    c.put_others.ensures ∙ ap (λ (l : List ℕ). c.args.page.now ++ l) (rest-few c.args.extended rest some few)

pub returns-else-others-le-NAMED_LIMIT : goal.returns-else-others-le-NAMED_LIMIT
returns-else-others-le-NAMED_LIMIT c =
    let page = c.args.page.now in
    let rest = not_listed c.args.self.now.pattern.now c.args.list.now in
    let others = c.args.self.now.through - c.different.result in
    let same : others ≡ length rest = omega (arith, c.requires.0, c.different.ensures) in
    let many : 16 < length rest = omega (arith, same, c.if-others-le-NAMED_LIMIT.false) in
    let once = c.add-else-others-le-NAMED_LIMIT in
    let blank = added_is page (ascii " ") once.new.self (omega (arith, c.requires.2)) once.ensures in
    let few = decimal-long 9 others (omega (arith, c.requires.1)) in
    added_is once.new.self (decimal others) _ (omega (arith, c.requires.2, few, long page (ascii " ") once.new.self blank)) c.add_decimal.ensures
    ∙ behind page (ascii " ") once.new.self (decimal others) blank
    ∙ ap (λ (l : List ℕ). page ++ l) (ap (λ (n : ℕ). ascii " " ++ decimal n) same ∙ rest-many c.args.extended rest many)
