-- `filter_report::faults::FaultyLine::text` meets its contract: five texts, each behind the last. Assumes nothing.
use Rattle.std.proofs.Common.{arith, ◌∙◌, ap, List, ℕ, ◌++◌, length}
use Rattle.laws.specs.Ascii.{ascii}
use Rattle.text.specs.Decimal.{decimal}
use Rattle.text.proofs.Decimal.{decimal-long}
use Rattle.filter_report.specs.Faults.{shown_of, fault_text}
use Rattle.filter_report.proofs.Page.{three-long, five}
use Rattle.filter_report.proofs.Shown.{shown-short, said-long}
use Rattle.filter_report.proofs.faults.FaultyLine.text.Goals as goal

pub put_shown-requires : goal.put_shown-requires
put_shown-requires c =
    let number = c.args.self.now.number in
    let few = decimal-long 4 number (omega (arith, c.args.self.now.few)) in
    let none = ap length c.new-page.ensures in
    let before = three-long c.new-page.result (ascii "line ") (decimal number) (ascii ": \"") _ _ _ c.add.ensures c.add_decimal.ensures c.add-2.ensures (omega (arith, few, none)) in
    omega (arith, before, few, none)

pub returns : goal.returns
unfolding fault_text
returns c =
    let number = c.args.self.now.number in
    let line = c.args.self.now.line.now in
    let few = decimal-long 4 number (omega (arith, c.args.self.now.few)) in
    let none = ap length c.new-page.ensures in
    let said = c.said.ensures in
    let short = said-long c.args.format.extended c.args.format.hex c.args.self.now.fault in
    five c.new-page.result (ascii "line ") (decimal number) (ascii ": \"") (shown_of line) c.said.result.now _ _ _ _ _ (omega (arith, few, none, shown-short line, short, ap length said))
    c.add.ensures c.add_decimal.ensures c.add-2.ensures c.put_shown.ensures c.add-3.ensures
    ∙ ap (λ (l : List ℕ). l ++ (ascii "line " ++ (decimal number ++ (ascii ": \"" ++ (shown_of line ++ c.said.result.now))))) c.new-page.ensures
    ∙ ap (λ (l : List ℕ). ascii "line " ++ (decimal number ++ (ascii ": \"" ++ (shown_of line ++ l)))) said
