-- `filter_matcher::shown::show_extended` meets its contract: its sums are the words with these numbers at their rows' positions. Assumes nothing.
use mathlib.Core.Path.{refl}
use Rattle.filter_matcher.proofs.Rows.{extended-rows}
use Rattle.filter_matcher.proofs.shown.show_extended.Goals as goal

pub returns : goal.returns
returns c = extended-rows _ _ _ _ _ _ _ c.requires.0 c.requires.1 refl refl
