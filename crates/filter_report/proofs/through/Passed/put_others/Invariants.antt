-- `filter_report::through::Passed::put_others` meets its contract: at each turn one number more is asked for, and put if it is not listed. Assumes nothing.
use Rattle.std.proofs.Common.{◌≡◌, ◌++◌, take}
use Rattle.filter_report.specs.Listed.{ids_text}
use Rattle.filter_report.specs.Through.{members_of, without}
use Rattle.filter_report.proofs.through.Passed.put_others.Given as goal

abbrev pub invariant-loop-k : goal.invariant-loop-k
invariant-loop-k l = l.page ≡ l.initial.page ++ ids_text l.extended (without l.list (take l.k (members_of l.self.pattern.now)))
