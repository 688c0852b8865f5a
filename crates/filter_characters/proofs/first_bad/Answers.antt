-- `filter_characters::first_bad` meets its contract: `position` gives the length of the good prefix, where that is not all. Assumes nothing.
use Rattle.std.proofs.Common.{rules, tests}
use Rattle.std.proofs.lemmas.Iterator.{YieldsList-from_slice}
use Rattle.std.proofs.lemmas.Iterator.Search.{position_from_yields_List}
use Rattle.filter_characters.proofs.Characters.{bad-prefix}
use Rattle.filter_characters.proofs.first_bad.Goals as goal

pub returns : goal.returns
returns c =
    rw (bad-prefix c.args.characters.now)
    (position_from_yields_List _ _ _ _ c.position.ensures.ran (YieldsList-from_slice c.args.characters.now cc) (λ x b q k. search (rules, tests)))
