-- `filter_compilers::judge_characters` meets its contract: what is behind is good, so the first that is not is still to come. Assumes nothing.
use mathlib.Core.Path.{◌≡◌}
use mathlib.Core.List.{map}
use lib.ListN.{drop}
use Rattle.filter_compilers.specs.Answers.{characters_of}
use Rattle.filter_compilers.proofs.judge_characters.Given as goal

abbrev pub invariant-loop-field : goal.invariant-loop-field
invariant-loop-field l = characters_of 0 (map (λ p. p.now) l.patterns) ≡ characters_of l.field (drop l.field (map (λ p. p.now) l.patterns))
