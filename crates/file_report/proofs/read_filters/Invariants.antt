-- `file_report::read_filters` meets its contract: at each turn one filter more is held. Assumes nothing.
use Rattle.std.proofs.Common.{◌≡◌, ◌+◌, ◌*◌, take, length}
use Rattle.laws.specs.Tabulate.{tabulate}
use Rattle.file_reading.specs.Format.{filter_limit, filter_bytes}
use Rattle.file_report.specs.Held.{held_at}
use Rattle.file_report.proofs.read_filters.Given as goal

abbrev pub invariant-loop-i : goal.invariant-loop-i
invariant-loop-i l =
    (take l.i l.held ≡ tabulate l.i (λ k. held_at l.file (l.sections.filters_start + filter_bytes * k))) × (length l.held ≡ filter_limit)
