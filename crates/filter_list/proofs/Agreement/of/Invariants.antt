-- `filter_list::Agreement::of` meets its contract: what is folded so far and what is left to fold make the whole. Assumes nothing.
use mathlib.Core.Path.{◌≡◌}
use lib.ListN.{drop}
use Rattle.filter_list.proofs.Folds.{agreed_from, differing_from}
use Rattle.filter_list.proofs.Agreement.of.Given as goal

abbrev pub invariant-loop-entry : goal.invariant-loop-entry
invariant-loop-entry l = record {
  agreed : agreed_from l.agreed (drop l.entry-index l.rest) ≡ agreed_from l.first l.rest;
  differing : differing_from l.first l.differing (drop l.entry-index l.rest) ≡ differing_from l.first 0 l.rest;
}
