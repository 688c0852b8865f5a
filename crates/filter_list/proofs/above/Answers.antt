-- `filter_list::above` meets its contract: `position` gives the length of the front that is within the limit, where that is not all. Assumes nothing.
use Rattle.std.proofs.Common.{rules, tests}
use Rattle.std.proofs.lemmas.Iterator.{YieldsList-from_slice}
use Rattle.std.proofs.lemmas.Iterator.Search.{position_from_yields_List}
use Rattle.filter_list.proofs.Folds.{above-first}
use Rattle.filter_list.proofs.above.Goals as goal

pub returns : goal.returns
returns c =
    rw (above-first c.args.limit c.args.list.now)
    (position_from_yields_List _ _ _ _ c.position.ensures.ran (YieldsList-from_slice c.args.list.now cc) (λ x b q k. search (rules, tests)))
