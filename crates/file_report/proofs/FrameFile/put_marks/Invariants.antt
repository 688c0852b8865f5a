-- `file_report::FrameFile::put_marks` meets its contract: at each turn one mark more is laid, and it is known whether some filter so far accepts. Assumes nothing.
use Rattle.std.proofs.Common.{◌≡◌}
use Rattle.laws.specs.Laid.{laid}
use Rattle.file_report.specs.Text.{marks, any as some}
use Rattle.file_report.specs.Held.{agrees}
use Rattle.file_report.proofs.Marks.{first}
use Rattle.file_report.proofs.FrameFile.put_marks.Given as goal

abbrev pub invariant-loop-i : goal.invariant-loop-i
invariant-loop-i l =
    (l.out ≡ laid l.at (marks (first (agrees l.shown) l.self.filters.now l.i)) l.initial.out)
    × (l.any ≡ some (first (agrees l.shown) l.self.filters.now l.i))
