-- `filter_report::faults::put_shown` meets its contract: all that is printable, or the front of it. Assumes nothing.
use Rattle.std.proofs.Common.{arith, ◌≡◌, ◌∙◌, sym, ap, List, ℕ, length, take, ◌++◌, length-take-le}
use Rattle.filter_report.specs.Line.{unblanked}
use Rattle.filter_report.specs.Faults.{printed}
use Rattle.laws.specs.Ascii.{ascii}
use Rattle.filter_report.proofs.Page.{added_is, behind, long}
use Rattle.filter_report.proofs.Shown.{shown-whole, shown-cut}
use Rattle.filter_report.proofs.faults.put_shown.Goals as goal

pub slice_bounds-add-end : goal.slice_bounds-add-end
slice_bounds-add-end c = sym (length-take-le 32 c.printed-shown.result.now (omega (arith, c.if-shown-le-MOST_SHOWN.false)))

pub returns-then-shown-le-MOST_SHOWN : goal.returns-then-shown-le-MOST_SHOWN
returns-then-shown-le-MOST_SHOWN c =
    let shown = c.printed-shown.result.now in
    let few = c.if-shown-le-MOST_SHOWN.true in
    let same : shown ≡ printed (unblanked c.args.line.now) = c.printed-shown.ensures ∙ ap printed c.unblanked.ensures in
    added_is c.args.page.now shown _ (omega (arith, c.requires, few)) c.add.ensures ∙ ap (λ (l : List ℕ). c.args.page.now ++ l) (shown-whole c.args.line.now shown same few)

pub returns-else-shown-le-MOST_SHOWN : goal.returns-else-shown-le-MOST_SHOWN
returns-else-shown-le-MOST_SHOWN c =
    let page = c.args.page.now in
    let shown = c.printed-shown.result.now in
    let many = c.if-shown-le-MOST_SHOWN.false in
    let same : shown ≡ printed (unblanked c.args.line.now) = c.printed-shown.ensures ∙ ap printed c.unblanked.ensures in
    let cut = take 32 shown in
    let short : length cut ≡ 32 = length-take-le 32 shown (omega (arith, many)) in
    let once = c.add-else-shown-le-MOST_SHOWN in
    let twice = c.add-else-shown-le-MOST_SHOWN-2 in
    let front = added_is page cut once.new.self (omega (arith, c.requires, short)) once.ensures in
    added_is once.new.self (ascii "..") _ (omega (arith, c.requires, short, long page cut once.new.self front)) twice.ensures
    ∙ behind page cut once.new.self (ascii "..") front
    ∙ ap (λ (l : List ℕ). page ++ l) (shown-cut c.args.line.now shown same many)
