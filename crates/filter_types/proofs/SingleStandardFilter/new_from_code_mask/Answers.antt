-- `filter_types::SingleStandardFilter::new_from_code_mask` meets its contract: limits first, then the words of both. Assumes nothing.
use mathlib.Core.Bool.{false}
use mathlib.Core.Path.{◌∙◌}
use Rattle.std.proofs.lemmas.Result.{err_from_is_err_and}
use Rattle.filter_types.proofs.Answers.{limits-broken, limits-met, code-mask-refused, code-mask-made, one_kept}
use Rattle.filter_types.proofs.SingleStandardFilter.new_from_code_mask.Goals as goal

pub returns-in_err-judge_limits : goal.returns-in_err-judge_limits
returns-in_err-judge_limits c =
    let p = err_from_is_err_and c.from_residual.result c.from_residual.ensures.1 in
    let above = limits-broken _ _ c.in_err-judge_limits.ensures in
    rw (p.1, p.2) (code-mask-refused _ _ _ _ (one_kept false c.args.id_code.0 c.args.id_mask.0 ∙ above.0) above.1)

pub returns : goal.returns
returns c =
    code-mask-made _ _ _ _ _ _ (one_kept false c.args.id_code.0 c.args.id_mask.0 ∙ limits-met _ c.in_ok-judge_limits.ensures)
    c.made.ensures c.single_standard_word.ensures c.single_standard_word-2.ensures
