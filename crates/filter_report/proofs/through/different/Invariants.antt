-- `filter_report::through::different` meets its contract: what is counted so far and what is left to count make the whole. Assumes nothing.
use Rattle.std.proofs.Common.{◌≡◌, ◌+◌, ◌≤◌, length}
use Rattle.filter_report.specs.Through.{different}
use Rattle.filter_report.proofs.through.different.Given as goal

abbrev pub invariant-loop-n : goal.invariant-loop-n
invariant-loop-n l = (l.count + length l.rest ≤ length l.list) × (different l.list ≡ l.count + different l.rest)

abbrev pub decreases-loop-n : goal.decreases-loop-n
decreases-loop-n l = length l.rest
