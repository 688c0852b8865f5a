-- `file_writing::first_bad_kind` meets its contract: at each turn the rest of the filters has the same first bad kind. Assumes nothing.
use Rattle.std.proofs.Common.{◌≡◌, ◌-◌}
use Rattle.file_writing.specs.Writer.{filter_count, first_bad_kind, bad_kind}
use Rattle.file_writing.proofs.first_bad_kind.Given as goal

abbrev pub invariant-loop-index : goal.invariant-loop-index
invariant-loop-index l = first_bad_kind l.filters (filter_count l.filters - l.index) l.index ≡ bad_kind l.filters
