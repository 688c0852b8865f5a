-- `file_report::FrameFile::accepted` meets its contract: at each turn one frame more is counted or not. Assumes nothing.
use Rattle.std.proofs.Common.{◌≡◌}
use Rattle.laws.specs.Tabulate.{tabulate}
use Rattle.file_report.specs.Text.{count_of}
use Rattle.file_report.specs.Held.{row_at}
use Rattle.file_report.proofs.FrameFile.accepted.Given as goal

abbrev pub invariant-loop-index : goal.invariant-loop-index
invariant-loop-index l = l.count ≡ count_of (tabulate l.index (row_at l.self.bytes.now l.self.sections))
