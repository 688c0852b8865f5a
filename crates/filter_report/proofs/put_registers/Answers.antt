-- `filter_report::put_registers` meets its contract: five texts, each behind the last. Assumes nothing.
use Rattle.std.proofs.Common.{arith}
use Rattle.laws.specs.Ascii.{ascii}
use Rattle.filter_report.specs.Hex.{hex_of}
use Rattle.filter_report.specs.Text.{registers_text}
use Rattle.filter_report.proofs.Page.{three-long, five, hex-long}
use Rattle.filter_report.proofs.put_registers.Goals as goal

pub put_hex-requires : goal.put_hex-requires
put_hex-requires c =
    let before = three-long c.args.page.now (ascii "pattern ") c.args.pattern.now (ascii "\nregisters ") _ _ _ c.add.ensures c.add-2.ensures c.add-3.ensures (omega (arith, c.requires.0, c.requires.2)) in
    omega (arith, before, c.requires.0, c.requires.1, c.requires.2)

pub returns : goal.returns
unfolding registers_text
returns c =
    let short = hex-long c.args.registers.now in
    five c.args.page.now (ascii "pattern ") c.args.pattern.now (ascii "\nregisters ") (hex_of c.args.registers.now) (ascii "\n") _ _ _ _ _ (omega (arith, short, c.requires.0, c.requires.1, c.requires.2))
    c.add.ensures c.add-2.ensures c.add-3.ensures c.put_hex.ensures c.add-4.ensures
