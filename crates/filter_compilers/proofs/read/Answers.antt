-- `filter_compilers::read` meets its contract: the square of the marks is turned about its diagonal, in three steps. Assumes nothing.
use Rattle.filter_compilers.proofs.Both.{row_read}
use Rattle.filter_compilers.proofs.read.Goals as goal

pub returns : goal.returns
returns c =
    row_read c.args.row.now _ _ _ _ _ _ _ _ _ _ _ c.told-row c.requires
    c.eight.ensures c.eight-2.ensures c.eight-3.ensures c.eight-4.ensures
    c.marks-first.ensures.0 c.marks-second.ensures.0 c.marks-third.ensures.0 c.marks.ensures.0
    c.exchanged-pairs.ensures c.exchanged-fours.ensures c.exchanged-turned.ensures
