-- `file_words::put_numbers` meets its contract: the second number and the last text go behind the first two texts. Assumes nothing.
use Rattle.std.proofs.Common.{◌∙◌, ap, ◌++◌, length, arith, rules}
use Rattle.file_words.proofs.Page.{around-long, regrouped}
use Rattle.file_words.specs.Words.{around}
use Rattle.file_words.proofs.put_numbers.Goals as goal

pub put_number-requires-2 : goal.put_number-requires-2
put_number-requires-2 c =
    let args = c.args in
    let first = c.put_number.ensures ∙ ap (λ p. p ++ around args.before.now args.n args.between.now) c.requires.0 in
    omega (arith, ap length first, around-long args.before.now args.between.now args.n (search rules))

pub returns : goal.returns
returns c =
    let args = c.args in
    let first = c.put_number.ensures ∙ ap (λ p. p ++ around args.before.now args.n args.between.now) c.requires.0 in
    c.put_number-2.ensures ∙ ap (λ p. p ++ around _ args.m args.behind.now) first ∙ regrouped args.before.now args.between.now args.behind.now args.n args.m
