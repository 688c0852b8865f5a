-- `filter_report::named::put_id` meets its contract: at each turn one digit more stands behind the others. Assumes nothing.
use Rattle.std.proofs.Common.{◌≡◌, ◌++◌, take}
use Rattle.filter_report.specs.Listed.{last_digits}
use Rattle.filter_report.proofs.named.put_id.Given as goal

abbrev pub invariant-loop-i : goal.invariant-loop-i
invariant-loop-i l = l.page ≡ l.initial.page ++ take l.i (last_digits l.width l.id)
