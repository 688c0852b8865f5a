-- `filter_report::through::halve` meets its contract: a digit leaves the numbers of the rest as many as they are, `x` doubles them. Assumes nothing.
use native.Mathlib.Omega.{arith}
use Rattle.filter_report.proofs.Members.{split-zero, split_one, split-low, split-high}
use Rattle.filter_report.proofs.through.halve.Goals as goal

pub returns-then-character-eq48 : goal.returns-then-character-eq48
returns-then-character-eq48 c = (split-zero _ _ _ c.if-character-eq48.true, omega arith)

pub returns-then-character-eq49 : goal.returns-then-character-eq49
returns-then-character-eq49 c = (split_one _ _ _ c.if-character-eq49.true, omega arith)

pub returns-then-k-half : goal.returns-then-k-half
returns-then-k-half c = (split-low _ _ _ c.if-character-eq48.false c.if-character-eq49.false c.if-k-half.true, omega arith)

pub returns-else-k-half : goal.returns-else-k-half
returns-else-k-half c = (split-high _ _ _ c.if-character-eq48.false c.if-character-eq49.false c.if-k-half.false, omega arith)
