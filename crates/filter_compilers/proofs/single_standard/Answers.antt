-- `filter_compilers::single_standard` meets its contract: the row that its fields are drawn in shows its patterns. Assumes nothing.
use mathlib.Core.Path.{sym, ◌∙◌}
use mathlib.Core.List.{[], ◌∷◌}
use native.Mathlib.Omega.{arith}
use Rattle.std.proofs.lemmas.Result.{err_from_is_err_and}
use Rattle.filter_compilers.specs.Table.{single_standard, fields_of}
use Rattle.filter_compilers.proofs.Fields.{single-standard}
use Rattle.filter_compilers.proofs.Answers.{length-refused, all_made, short}
use Rattle.filter_compilers.proofs.single_standard.Goals as goal

pub compile-requires : goal.compile-requires
compile-requires c =
    let args = c.args in
    let shows = single-standard args.id.now args.rtr.now args.first.now args.second.now _ _ _ _ (sym c.in_ok-judge_lengths.ensures)
    c.drawn.ensures c.drawn-identified.ensures
    c.drawn-2.ensures c.drawn-row.ensures in
    (omega arith, short _ _ _ shows, shows.good)

pub returns-in_err-judge_lengths : goal.returns-in_err-judge_lengths
unfolding fields_of
returns-in_err-judge_lengths c =
    let args = c.args in
    let p = err_from_is_err_and c.from_residual.result c.from_residual.ensures.1 in
    rw (p.1, p.2) (length-refused single_standard (args.id.now ∷ args.rtr.now ∷ args.first.now ∷ args.second.now ∷ []) _ c.in_err-judge_lengths.ensures)

pub returns : goal.returns
returns c =
    let args = c.args in
    let shows = single-standard args.id.now args.rtr.now args.first.now args.second.now _ _ _ _ (sym c.in_ok-judge_lengths.ensures)
    c.drawn.ensures c.drawn-identified.ensures
    c.drawn-2.ensures c.drawn-row.ensures in
    c.compile.ensures ∙ all_made single_standard (args.id.now ∷ args.rtr.now ∷ args.first.now ∷ args.second.now ∷ []) _ shows
