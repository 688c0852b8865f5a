-- `filter_compilers::single_extended` meets its contract: the row that its fields are drawn in shows its patterns. Assumes nothing.
use mathlib.Core.Path.{sym, ◌∙◌}
use mathlib.Core.List.{[], ◌∷◌}
use native.Mathlib.Omega.{arith}
use Rattle.std.proofs.lemmas.Result.{err_from_is_err_and}
use Rattle.filter_compilers.specs.Table.{single_extended, fields_of}
use Rattle.filter_compilers.proofs.Fields.{single-extended}
use Rattle.filter_compilers.proofs.Answers.{length-refused, all_made, short}
use Rattle.filter_compilers.proofs.single_extended.Goals as goal

pub compile-requires : goal.compile-requires
compile-requires c =
    let args = c.args in
    let shows = single-extended args.id.now args.rtr.now _ _ (sym c.in_ok-judge_lengths.ensures)
    c.drawn.ensures c.drawn-row.ensures in
    (omega arith, short _ _ _ shows, shows.good)

pub returns-in_err-judge_lengths : goal.returns-in_err-judge_lengths
unfolding fields_of
returns-in_err-judge_lengths c =
    let args = c.args in
    let p = err_from_is_err_and c.from_residual.result c.from_residual.ensures.1 in
    rw (p.1, p.2) (length-refused single_extended (args.id.now ∷ args.rtr.now ∷ []) _ c.in_err-judge_lengths.ensures)

pub returns : goal.returns
returns c =
    let args = c.args in
    let shows = single-extended args.id.now args.rtr.now _ _ (sym c.in_ok-judge_lengths.ensures)
    c.drawn.ensures c.drawn-row.ensures in
    c.compile.ensures ∙ all_made single_extended (args.id.now ∷ args.rtr.now ∷ []) _ shows
