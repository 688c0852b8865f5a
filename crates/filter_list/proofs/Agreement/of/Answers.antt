-- `filter_list::Agreement::of` meets its contract: what is folded so far and what is left to fold make the whole. Assumes nothing.
use Prim.Native.Nat.{ℕ}
use mathlib.Core.Path.{ap₂, ◌∙◌}
use native.Mathlib.Omega.{arith}
use Rattle.filter_list.specs.Pattern.{character_by}
use Rattle.filter_list.proofs.Folds.{fold_end, fold-turn, folded}
use Rattle.filter_list.proofs.Agreement.of.Goals as goal

pub loop-entry-preserved : goal.loop-entry-preserved
loop-entry-preserved c =
    let rest = c.args.rest.now in
    let turn = c.loop-entry in
    record {
      agreed = fold-turn _ rest turn.entry-index turn.agreed _ (omega arith) turn.invariant.agreed;
      differing = fold-turn _ rest turn.entry-index turn.differing _ (omega arith) turn.invariant.differing;
    }

pub returns : goal.returns
returns c =
    let rest = c.args.rest.now in
    let turn = c.loop-entry in
    λ k. ap₂ (λ (a d : ℕ). character_by a d k)
    (fold_end _ rest turn.entry-index turn.agreed _ (omega arith) (omega arith) turn.invariant.agreed)
    (fold_end _ rest turn.entry-index turn.differing _ (omega arith) (omega arith) turn.invariant.differing)
    ∙ folded c.args.first k rest
