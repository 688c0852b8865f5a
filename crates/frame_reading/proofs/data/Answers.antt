-- `frame_reading::data` meets its contract: the part starts at the data offset and has the data length. Assumes nothing.
use mathlib.Core.Path.{◌≡◌}
use lib.ListN.{length}
use native.Mathlib.Omega.{arith}
use native.Mathlib.Nat.{add-sub_cancel_left}
use borrow.Author.Rules.{rules}
use Rattle.frame_reading.specs.Buffer.{data_of}
use Rattle.frame_info.proofs.Info.{used-bound}
use Rattle.frame_reading.proofs.data.Goals as goal

pub overflow_add-end : goal.overflow_add-end
overflow_add-end c = omega (arith, used-bound c.args.frame.now, c.data_offset-start.ensures, c.data_length.ensures)

pub slice_bounds-result-end : goal.slice_bounds-result-end
slice_bounds-result-end c =
    let b = c.args.frame.now in
    let room : length b ≡ 13 = search rules in
    omega (arith, used-bound b, c.data_offset-start.ensures, c.data_length.ensures)

pub returns : goal.returns
unfolding data_of
returns c = rw (c.data_offset-start.ensures, c.data_length.ensures, add-sub_cancel_left)
