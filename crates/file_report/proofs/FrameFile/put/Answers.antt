-- `file_report::FrameFile::put` meets its contract: the lines, the word, the count and a newline, each laid behind the last. Assumes nothing.
use Rattle.std.proofs.Common.{◌∙◌, sym, ap, length, arith}
use Rattle.laws.specs.Laid.{laid_first}
use Rattle.file_report.proofs.Held.{text-read}
use Rattle.file_report.proofs.Frames.{text-long, good-end, good-room, good-put}
use Rattle.file_report.proofs.FrameFile.put.Goals as goal

pub put_lines-count-requires : goal.put_lines-count-requires
put_lines-count-requires c =
    let file = c.args.self.now in
    omega (arith, text-long file.bytes.now file.sections file.is_read)

pub bounds-out-newline : goal.bounds-out-newline
bounds-out-newline c =
    let file = c.args.self.now in
    let sections = file.sections in
    let lines = c.put_lines-count in
    let word = c.put_text-number in
    let number = c.put_decimal-newline in
    good-room file.bytes.now sections sections.frames c.args.lines word.result number.result lines.result
    c.args.out.now lines.new.out word.new.out number.new.out (omega (arith, ap length (text-read file.bytes.now sections file.is_read)))
    c.requires.0 lines.ensures.0 lines.ensures.1 word.ensures.value word.ensures.out_after number.ensures.value number.ensures.out_after

pub overflow_add-result : goal.overflow_add-result
overflow_add-result c =
    let file = c.args.self.now in
    let sections = file.sections in
    let lines = c.put_lines-count in
    let word = c.put_text-number in
    let number = c.put_decimal-newline in
    let end = good-end file.bytes.now sections sections.frames c.args.lines word.result number.result lines.result
    c.args.out.now lines.new.out word.new.out number.new.out (omega (arith, ap length (text-read file.bytes.now sections file.is_read)))
    c.requires.0 lines.ensures.0 lines.ensures.1 word.ensures.value word.ensures.out_after number.ensures.value number.ensures.out_after in
    omega (arith, end, ap length (text-read file.bytes.now sections file.is_read))

pub returns : goal.returns
returns c =
    let file = c.args.self.now in
    let sections = file.sections in
    let lines = c.put_lines-count in
    let word = c.put_text-number in
    let number = c.put_decimal-newline in
    let read = text-read file.bytes.now sections file.is_read in (
      good-end file.bytes.now sections sections.frames c.args.lines word.result number.result lines.result
          c.args.out.now lines.new.out word.new.out number.new.out (omega (arith, ap length read))
          c.requires.0 lines.ensures.0 lines.ensures.1 word.ensures.value word.ensures.out_after number.ensures.value number.ensures.out_after
          ∙ ap length (sym read),
      good-put file.bytes.now sections sections.frames c.args.lines word.result number.result lines.result
          c.args.out.now lines.new.out word.new.out number.new.out (omega (arith, ap length read))
          c.requires.0 lines.ensures.0 lines.ensures.1 word.ensures.value word.ensures.out_after number.ensures.value number.ensures.out_after
          ∙ ap (λ t. laid_first t c.args.out.now) (sym read),
    )
