-- `file_reading::read_filters` meets its contract: at each turn what is left of the filters gives the same answer. Assumes nothing.
use Rattle.std.proofs.Common.{◌≡◌, ◌+◌, ◌-◌, ◌*◌}
use Rattle.file_reading.specs.Format.{filter_bytes}
use Rattle.file_reading.specs.Reader.{filters_from}
use Rattle.file_reading.proofs.read_filters.Given as goal

abbrev pub invariant-loop-i : goal.invariant-loop-i
invariant-loop-i l = filters_from l.file l.filters (l.filters - l.i) (1 + filter_bytes * l.i) ≡ filters_from l.file l.filters l.filters 1
