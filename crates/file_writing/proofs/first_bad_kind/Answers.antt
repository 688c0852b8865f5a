-- `file_writing::first_bad_kind` meets its contract: at each turn the rest of the filters has the same first bad kind. Assumes nothing.
use Rattle.std.proofs.Common.{arith}
use Rattle.file_writing.proofs.Writer.{kinds-turn, kinds-stop, kinds-end}
use Rattle.file_writing.proofs.first_bad_kind.Goals as goal

pub returns-then-filters-index-gt1 : goal.returns-then-filters-index-gt1
returns-then-filters-index-gt1 c =
    (kinds-stop c.args.filters.now _ _ _ c.loop-index-test.true c.if-filters-index-gt1.true c.loop-index.invariant, c.loop-index-test.true)

pub loop-index-preserved : goal.loop-index-preserved
loop-index-preserved c = kinds-turn c.args.filters.now _ _ _ c.loop-index-test.true c.if-filters-index-gt1.false c.loop-index.invariant

pub returns : goal.returns
returns c = omega (arith, kinds-end c.args.filters.now _ _ _ c.loop-index-test.false c.loop-index.invariant)
