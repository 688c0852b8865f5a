-- `file_report::FrameFile::accepted` meets its contract: at each turn one frame more is counted or not. Assumes nothing.
use Rattle.std.proofs.Common.{◌+◌, arith}
use Rattle.file_report.proofs.Frames.{within, count_none, count-turn, count-few}
use Rattle.file_report.proofs.FrameFile.accepted.Goals as goal

pub loop-index-init : goal.loop-index-init
loop-index-init c = count_none c.args.self.now.bytes.now c.args.self.now.sections

pub overflow_add-count : goal.overflow_add-count
overflow_add-count c =
    let file = c.args.self.now in
    let next = count-turn file.bytes.now file.sections c.loop-index.index _ _ _ c.loop-index.invariant c.is_accepted.ensures c.from-count.ensures in
    let fits = within file.bytes.now file.sections file.is_read in
    omega (arith, next, count-few file.bytes.now file.sections (c.loop-index.index + 1), fits.few-frames)

pub loop-index-preserved : goal.loop-index-preserved
loop-index-preserved c =
    let file = c.args.self.now in
    count-turn file.bytes.now file.sections c.loop-index.index _ _ _ c.loop-index.invariant c.is_accepted.ensures c.from-count.ensures
