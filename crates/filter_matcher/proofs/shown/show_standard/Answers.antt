-- `filter_matcher::shown::show_standard` meets its contract: its sums are the words with these numbers at their rows' positions. Assumes nothing.
use native.Mathlib.Omega.{arith}
use Rattle.filter_matcher.proofs.Rows.{standard-rows}
use Rattle.filter_matcher.proofs.shown.show_standard.Goals as goal

pub returns : goal.returns
returns c =
    let pre = c.requires in
    standard-rows _ _ _ _ _ _ _ _ _ pre.0 pre.1 pre.2 pre.3 c.named_single.ensures c.named_first.ensures (omega arith) (omega arith)
