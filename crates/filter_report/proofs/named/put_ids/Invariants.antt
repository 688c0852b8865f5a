-- `filter_report::named::put_ids` meets its contract: at each turn one identifier more stands behind the others. Assumes nothing.
use Rattle.std.proofs.Common.{◌≡◌, ◌++◌, take}
use Rattle.filter_report.specs.Listed.{ids_text}
use Rattle.filter_report.proofs.named.put_ids.Given as goal

abbrev pub invariant-loop-id : goal.invariant-loop-id
invariant-loop-id l = l.page ≡ l.initial.page ++ ids_text l.extended (take l.id-index l.ids)
