-- `file_report::FrameFile::put_lines` meets its contract: at each turn one line more is laid, and its frame is counted or not. Assumes nothing.
use Rattle.std.proofs.Common.{◌≡◌}
use Rattle.laws.specs.Laid.{laid}
use Rattle.laws.specs.Tabulate.{tabulate}
use Rattle.file_report.specs.Text.{lines_from, count_of}
use Rattle.file_report.specs.Length.{lines_length}
use Rattle.file_report.specs.Held.{row_at}
use Rattle.file_report.proofs.FrameFile.put_lines.Given as goal

abbrev pub invariant-loop-index : goal.invariant-loop-index
invariant-loop-index l =
    (l.at ≡ lines_length l.self.sections.filters l.index)
    × (l.count ≡ count_of (tabulate l.index (row_at l.self.bytes.now l.self.sections)))
    × (l.out ≡ laid 0 (lines_from 0 (tabulate l.index (row_at l.self.bytes.now l.self.sections))) l.initial.out)
