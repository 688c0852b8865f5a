-- `filter_list::Agreement::write` meets its contract: what is written so far stands in front, and each turn writes one character more. Assumes nothing.
use mathlib.Core.Path.{◌≡◌}
use mathlib.Core.List.{◌++◌}
use lib.ListN.{take, drop}
use Rattle.filter_list.specs.Pattern.{character_by, down_from}
use Rattle.filter_list.proofs.Agreement.write.Given as goal

abbrev pub invariant-loop-i : goal.invariant-loop-i
invariant-loop-i l = l.pattern ≡ take l.i (down_from l.width (character_by l.self.agreed l.self.differing)) ++ drop l.i l.initial.pattern
