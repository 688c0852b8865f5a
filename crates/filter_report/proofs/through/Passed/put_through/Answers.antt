-- `filter_report::through::Passed::put_through` meets its contract: five texts, each behind the last. Assumes nothing.
use Rattle.std.proofs.Common.{arith}
use Rattle.laws.specs.Ascii.{ascii}
use Rattle.text.specs.Decimal.{decimal}
use Rattle.text.proofs.Decimal.{decimal-long}
use Rattle.filter_report.specs.Through.{not_listed, rest_text, through_text}
use Rattle.filter_report.proofs.Page.{three-long, five}
use Rattle.filter_report.proofs.Unlisted.{rest-long}
use Rattle.filter_report.proofs.through.Passed.put_through.Goals as goal

pub put_rest-requires : goal.put_rest-requires
put_rest-requires c =
    let through = c.args.self.now.through in
    let few = decimal-long 9 through (omega (arith, c.requires.1)) in
    let before = three-long c.args.page.now (ascii "let through ") (decimal through) (ascii ", not listed:") _ _ _ c.add.ensures c.add_decimal.ensures c.add-2.ensures (omega (arith, few, c.requires.2)) in
    (c.requires.0, c.requires.1, omega (arith, before, few, c.requires.2))

pub returns : goal.returns
unfolding through_text
returns c =
    let through = c.args.self.now.through in
    let few = decimal-long 9 through (omega (arith, c.requires.1)) in
    let rest = not_listed c.args.self.now.pattern.now c.args.list.now in
    let short = rest-long c.args.extended rest (omega (arith, c.requires.0, c.requires.1)) in
    five c.args.page.now (ascii "let through ") (decimal through) (ascii ", not listed:") (rest_text c.args.extended rest) (ascii "\n") _ _ _ _ _ (omega (arith, few, short, c.requires.2))
    c.add.ensures c.add_decimal.ensures c.add-2.ensures c.put_rest.ensures c.add-3.ensures
