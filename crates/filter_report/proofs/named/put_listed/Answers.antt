-- `filter_report::named::put_listed` meets its contract: five texts, each behind the last. Assumes nothing.
use Rattle.std.proofs.Common.{arith, length}
use Rattle.laws.specs.Ascii.{ascii}
use Rattle.text.specs.Decimal.{decimal}
use Rattle.text.proofs.Decimal.{decimal-long}
use Rattle.filter_report.specs.Listed.{front_text, listed_text}
use Rattle.filter_report.proofs.Page.{three-long, five}
use Rattle.filter_report.proofs.Ids.{front_long}
use Rattle.filter_report.proofs.named.put_listed.Goals as goal

pub put_front-requires : goal.put_front-requires
put_front-requires c =
    let list = c.args.list.now in
    let few = decimal-long 4 (length list) (omega (arith, c.requires.0)) in
    let before = three-long c.args.page.now (ascii "listed ") (decimal (length list)) (ascii ":") _ _ _ c.add.ensures c.add_decimal.ensures c.add-2.ensures (omega (arith, few, c.requires.1)) in
    omega (arith, before, few, c.requires.1)

pub returns : goal.returns
unfolding listed_text
returns c =
    let list = c.args.list.now in
    let few = decimal-long 4 (length list) (omega (arith, c.requires.0)) in
    let short = front_long c.args.extended list in
    five c.args.page.now (ascii "listed ") (decimal (length list)) (ascii ":") (front_text c.args.extended list) (ascii "\n") _ _ _ _ _ (omega (arith, few, short, c.requires.1))
    c.add.ensures c.add_decimal.ensures c.add-2.ensures c.put_front.ensures c.add-3.ensures
