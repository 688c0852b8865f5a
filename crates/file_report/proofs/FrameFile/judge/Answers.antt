-- `file_report::FrameFile::judge` meets its contract: 14 bytes after the lines have room for any count. Assumes nothing.
use Rattle.std.proofs.Common.{ap, length, arith}
use Rattle.text.specs.Decimal.{decimal}
use Rattle.refusals.specs.declared.Refusal.TheVariants.{OutputTooShort}
use Rattle.file_report.proofs.Frames.{within, text-long, text-most}
use Rattle.file_report.proofs.FrameFile.judge.Goals as goal

pub overflow_add-lines : goal.overflow_add-lines
overflow_add-lines c =
    let file = c.args.self.now in
    let fits = within file.bytes.now file.sections file.is_read in
    omega (arith, fits.few-frames)

pub returns-then-lines-room-clause-ok : goal.returns-then-lines-room-clause-ok
returns-then-lines-room-clause-ok c =
    let file = c.args.self.now in
    omega (arith, text-most file.bytes.now file.sections file.is_read, c.if-lines-room.true)

pub overflow_add-needed : goal.overflow_add-needed
overflow_add-needed c =
    let file = c.args.self.now in
    let fits = within file.bytes.now file.sections file.is_read in
    omega (arith, fits.few-frames)

pub overflow_add-needed-2 : goal.overflow_add-needed-2
overflow_add-needed-2 c =
    let file = c.args.self.now in
    let fits = within file.bytes.now file.sections file.is_read in
    omega (arith, fits.few-frames, c.digits.ensures.1)

pub overflow_add-needed-3 : goal.overflow_add-needed-3
overflow_add-needed-3 c =
    let file = c.args.self.now in
    let fits = within file.bytes.now file.sections file.is_read in
    omega (arith, fits.few-frames, c.digits.ensures.1)

pub returns-then-room-needed-clause-err : goal.returns-then-room-needed-clause-err
returns-then-room-needed-clause-err c =
    let file = c.args.self.now in
    let long = text-long file.bytes.now file.sections file.is_read in
    let count = ap (λ k. length (decimal k)) c.accepted.ensures in
    (ap OutputTooShort (omega (arith, long, c.digits.ensures.0, count)), omega (arith, long, c.digits.ensures.0, count, c.if-room-needed.true))

pub returns-clause-ok : goal.returns-clause-ok
returns-clause-ok c =
    let file = c.args.self.now in
    let long = text-long file.bytes.now file.sections file.is_read in
    let count = ap (λ k. length (decimal k)) c.accepted.ensures in
    omega (arith, long, c.digits.ensures.0, count, c.if-room-needed.false)
