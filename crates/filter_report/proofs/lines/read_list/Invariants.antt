-- `filter_report::lines::read_list` meets its contract: what is found stands in the front of the list, or is found in the lines that are left. Assumes nothing.
use Rattle.std.proofs.Common.{◌≡◌, List, ℕ, length}
use Rattle.std.proofs.lemmas.Iterator.{YieldsList}
use Rattle.identifiers.specs.Limits.{limit_of}
use Rattle.filter_report.proofs.Split.{ReadUp}
use Rattle.filter_report.proofs.lines.read_list.Given as goal

abbrev pub invariant-loop-line : goal.invariant-loop-line
invariant-loop-line l =
    (goal.iterator-loop-line).can_next l.line-iterator
    × (goal.iterator-loop-line).is_finite l.line-iterator
    × ((lines : List (List ℕ)) × YieldsList (goal.iterator-loop-line).next_gives (λ x. x.now) l.line-iterator lines × ReadUp (limit_of l.format.extended) l.format.hex l.text l.number l.count l.list lines)
    × (length l.list ≡ length l.initial.list)
