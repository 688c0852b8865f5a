-- `file_report::FrameFile::lines_length` meets its contract: at each turn the length of one line more is added. Assumes nothing.
use Rattle.std.proofs.Common.{arith}
use Rattle.file_report.proofs.Frames.{within, long-none, long-turn}
use Rattle.file_report.proofs.FrameFile.lines_length.Goals as goal

pub loop-index-init : goal.loop-index-init
loop-index-init c = (long-none c.args.self.now.sections.filters, omega arith)

pub overflow_add-length-in-loop-index-2 : goal.overflow_add-length-in-loop-index-2
overflow_add-length-in-loop-index-2 c =
    let file = c.args.self.now in
    let fits = within file.bytes.now file.sections file.is_read in
    omega (arith, fits.few-frames, c.digits.ensures.1, c.width-width.ensures.1)

pub loop-index-preserved : goal.loop-index-preserved
loop-index-preserved c =
    let file = c.args.self.now in
    let fits = within file.bytes.now file.sections file.is_read in (
      omega (arith, long-turn file.sections.filters c.loop-index.index, c.digits.ensures.0, c.width-width.ensures.0, c.loop-index.invariant.0),
      omega (arith, fits.few-frames, c.digits.ensures.1, c.width-width.ensures.1),
    )
