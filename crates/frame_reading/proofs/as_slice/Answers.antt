-- `frame_reading::as_slice` meets its contract: the part ends where the data end. Assumes nothing.
use native.Mathlib.Omega.{arith}
use Rattle.frame_reading.specs.Buffer.{used_of}
use Rattle.frame_info.proofs.Info.{used-bound}
use Rattle.frame_reading.proofs.as_slice.Goals as goal

pub overflow_add-end : goal.overflow_add-end
overflow_add-end c = omega (arith, used-bound c.args.frame.now, c.data_offset.ensures, c.data_length.ensures)

pub shared_ref_as_front-result : goal.shared_ref_as_front-result
shared_ref_as_front-result c = omega (arith, used-bound c.args.frame.now, c.data_offset.ensures, c.data_length.ensures)

pub returns : goal.returns
unfolding used_of
returns c = rw (c.data_offset.ensures, c.data_length.ensures)
