-- `filter_list::through` meets its contract: the identifier has the highest positions of the mask register. Assumes nothing.
use mathlib.Core.Path.{ap}
use native.Mathlib.Omega.{arith}
use Rattle.filter_compilers.specs.Table.{fields_of}
use Rattle.filter_list.specs.Answers.{id_positions}
use Rattle.filter_list.proofs.Counted.{counted-le, through-is}
use Rattle.filter_list.proofs.through.Goals as goal

pub overflow_shl-result : goal.overflow_shl-result
overflow_shl-result c = omega (arith, counted-le 3 29 c.mask_word-mask.result c.mask_word-mask.ensures.1)

pub returns-then-extended : goal.returns-then-extended
unfolding fields_of
returns-then-extended c = through-is _ _ 3 29 c.mask_word-mask.result (ap id_positions c.if-extended.true) c.mask_word-mask.ensures.0 c.mask_word-mask.ensures.1 (omega arith)

pub returns : goal.returns
unfolding fields_of
returns c = through-is _ _ 21 11 c.mask_word-mask.result (ap id_positions c.if-extended.false) c.mask_word-mask.ensures.0 c.mask_word-mask.ensures.1 (omega arith)
