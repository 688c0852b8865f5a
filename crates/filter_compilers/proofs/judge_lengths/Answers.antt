-- `filter_compilers::judge_lengths` meets its contract: what is behind is right, so the first that is wrong is still to come. Assumes nothing.
use mathlib.Core.Path.{◌≡◌, sym, ◌∙◌}
use lib.ListN.{length}
use native.Mathlib.Omega.{arith}
use borrow.Author.Rules.{rules}
use Rattle.filter_compilers.proofs.Lengths.{lengths-next, lengths-wrong, lengths-end}
use Rattle.filter_compilers.proofs.judge_lengths.Goals as goal

pub returns-then-lengths-field : goal.returns-then-lengths-field
returns-then-lengths-field g c =
    let wide : length c.args.widths ≡ g.row.N = search (rules, c.well_formed) in
    let long : length c.args.lengths ≡ g.row.N = search (rules, c.well_formed) in
    sym (c.loop-field.invariant ∙ lengths-wrong c.loop-field.field c.args.widths c.args.lengths _ (omega arith) (omega arith) c.if-lengths-field.true)

pub loop-field-preserved : goal.loop-field-preserved
loop-field-preserved g c =
    let wide : length c.args.widths ≡ g.row.N = search (rules, c.well_formed) in
    let long : length c.args.lengths ≡ g.row.N = search (rules, c.well_formed) in
    c.loop-field.invariant ∙ lengths-next c.loop-field.field c.args.widths c.args.lengths _ (omega arith) (omega arith) c.if-lengths-field.false

pub returns : goal.returns
returns g c =
    let wide : length c.args.widths ≡ g.row.N = search (rules, c.well_formed) in
    let long : length c.args.lengths ≡ g.row.N = search (rules, c.well_formed) in
    sym (c.loop-field.invariant ∙ lengths-end c.loop-field.field c.args.widths c.args.lengths _ (omega arith) (omega arith))
