-- `file_report::FrameFile::lines_length` meets its contract: at each turn the length of one line more is added. Assumes nothing.
use Rattle.std.proofs.Common.{◌≡◌, ◌≤◌, ◌*◌}
use Rattle.file_report.specs.Length.{lines_length}
use Rattle.file_report.proofs.FrameFile.lines_length.Given as goal

abbrev pub invariant-loop-index : goal.invariant-loop-index
invariant-loop-index l = (l.length ≡ lines_length l.self.sections.filters l.index) × (l.length ≤ 1000 * l.index)
