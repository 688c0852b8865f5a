-- `filter_report::pieces::put_hex` meets its contract: at each turn one byte more stands behind the others. Assumes nothing.
use Rattle.std.proofs.Common.{arith, ◌≤◌, ◌+◌, ◌∙◌, ap₂, ℕ, [], ◌∷◌, ◌++◌, take, length, length-take-le}
use Rattle.filter_report.specs.Hex.{hex_of}
use Rattle.filter_report.proofs.Page.{added_is, empty, long, turn, hex-none, hex-long, hex-turn}
use Rattle.filter_report.proofs.pieces.put_hex.Goals as goal

pub loop-byte-init : goal.loop-byte-init
loop-byte-init c = empty c.args.page.now _ hex-none

pub loop-byte-preserved : goal.loop-byte-preserved
loop-byte-preserved c =
    let loop = c.loop-byte in
    let bytes = c.args.bytes.now in
    let front = hex_of (take loop.byte-index bytes) in
    let two = c.hex_digit.result ∷ c.hex_digit-in-loop-byte.result ∷ [] in
    let few = length-take-le loop.byte-index bytes (omega (arith, c.loop-byte-test.true)) in
    let room : length loop.page + 2 ≤ 512 = omega (arith, c.requires, long c.args.page.now front loop.page loop.invariant, hex-long (take loop.byte-index bytes), few, c.loop-byte-test.true) in
    turn c.args.page.now front loop.page two c.add.new.self _ loop.invariant (added_is loop.page two c.add.new.self room c.add.ensures)
    (ap₂ (λ (x y : ℕ). front ++ (x ∷ y ∷ [])) c.hex_digit.ensures c.hex_digit-in-loop-byte.ensures ∙ hex-turn bytes loop.byte-index c.loop-byte-test.true)
