-- `abi_answers::array` meets its contract: a slice that is as long is all of the array. Assumes nothing.
use Rattle.std.proofs.Common.{sym}
use mathlib.Core.Path.{◌∙◌}
use Rattle.abi_answers.proofs.Whole.{laid-whole}
use Rattle.abi_answers.proofs.array.Goals as goal

pub returns-then-slice : goal.returns-then-slice
returns-then-slice g c = c.copy_from_slice.ensures.after ∙ sym (laid-whole g.row.N c.args.slice.now c.if-slice.true)
