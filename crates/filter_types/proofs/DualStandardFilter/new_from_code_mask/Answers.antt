-- `filter_types::DualStandardFilter::new_from_code_mask` meets its contract: limits first, then the words of both. Assumes nothing.
use mathlib.Core.Path.{◌∙◌}
use mathlib.Core.Bool.{false}
use Rattle.std.proofs.lemmas.Result.{err_from_is_err_and}
use Rattle.laws.proofs.Bools.{and-last-no, and-first-no, and_yes}
use Rattle.filter_types.proofs.Answers.{limits-broken, limits-met, code-mask-refused, code-mask-made, two-kept}
use Rattle.filter_types.proofs.DualStandardFilter.new_from_code_mask.Goals as goal

pub returns-in_err-judge_limits : goal.returns-in_err-judge_limits
returns-in_err-judge_limits c =
    let start = c.args in
    let p = err_from_is_err_and c.from_residual.result c.from_residual.ensures.1 in
    let above = limits-broken _ _ c.in_err-judge_limits.ensures in
    rw (p.1, p.2) (code-mask-refused _ _ _ _
    (two-kept false start.first_id_code.0 start.first_id_mask.0 start.second_id_code.0 start.second_id_mask.0 ∙ and-first-no _ _ above.0) above.1)

pub returns-in_err-judge_limits-2 : goal.returns-in_err-judge_limits-2
returns-in_err-judge_limits-2 c =
    let start = c.args in
    let p = err_from_is_err_and c.from_residual-in_err-judge_limits-2.result c.from_residual-in_err-judge_limits-2.ensures.1 in
    let above = limits-broken _ _ c.in_err-judge_limits-2.ensures in
    rw (p.1, p.2) (code-mask-refused _ _ _ _
    (two-kept false start.first_id_code.0 start.first_id_mask.0 start.second_id_code.0 start.second_id_mask.0 ∙ and-last-no _ _ above.0) above.1)

pub returns : goal.returns
returns c =
    let start = c.args in
    let one = limits-met _ c.in_ok-judge_limits.ensures in
    let two = limits-met _ c.in_ok-judge_limits-2.ensures in
    code-mask-made _ _ _ _ _ _
    (two-kept false start.first_id_code.0 start.first_id_mask.0 start.second_id_code.0 start.second_id_mask.0 ∙ and_yes _ _ one two)
    c.made.ensures c.dual_standard_word.ensures c.dual_standard_word-2.ensures
