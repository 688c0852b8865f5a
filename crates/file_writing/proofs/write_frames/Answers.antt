-- `file_writing::write_frames` meets its contract: two stores, and the frames put behind them. Assumes nothing.
use native.Mathlib.Omega.{arith}
use Rattle.file_writing.proofs.Writer.{second-laid}
use Rattle.file_writing.proofs.write_frames.Goals as goal

pub returns : goal.returns
returns c = second-laid c.args.frames.now c.args.rest.now _ _ _ (omega arith) c.put_text.ensures.out_after
