-- `filter_compilers::judge_lengths` meets its contract: what is behind is right, so the first that is wrong is still to come. Assumes nothing.
use mathlib.Core.Path.{◌≡◌}
use lib.ListN.{drop}
use Rattle.laws.specs.Said.{gives}
use Rattle.filter_compilers.specs.Answers.{lengths_of}
use Rattle.filter_compilers.proofs.judge_lengths.Given as goal

abbrev pub invariant-loop-field : goal.invariant-loop-field
invariant-loop-field g l = lengths_of 0 l.widths l.lengths (gives 8) ≡ lengths_of l.field (drop l.field l.widths) (drop l.field l.lengths) (gives 8)
