-- `filter_characters::all_known` meets its contract: what is judged so far and what is left to judge make the whole. Assumes nothing.
use mathlib.Core.Path.{◌∙◌}
use mathlib.Core.Bool.{Bool, true, ◌&&◌}
use Prim.Native.Nat.{ℕ}
use Rattle.std.proofs.Common.{rules, tests}
use Rattle.std.proofs.lemmas.Iterator.{YieldsList-from_slice}
use Rattle.std.proofs.lemmas.Iterator.Consumers.{fold_from_yields_List}
use Rattle.filter_characters.specs.Characters.{is_character}
use Rattle.filter_characters.proofs.Characters.{all-folded}
use Rattle.filter_characters.proofs.all_known.Goals as goal

pub returns : goal.returns
returns c =
    fold_from_yields_List _ (λ (all : Bool) (c : ℕ). all && is_character c) true _ c.fold.ensures.ran (YieldsList-from_slice c.args.characters.now cc) (λ a x b q k. search (rules, tests))
    ∙ all-folded c.args.characters.now true
