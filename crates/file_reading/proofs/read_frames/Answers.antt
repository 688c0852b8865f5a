-- `file_reading::read_frames` meets its contract: the first frame that is not whole is found by a division. Assumes nothing.
use Rattle.std.proofs.Common.{sym, arith}
use Rattle.file_reading.proofs.Reader.{frames-cut, frames-over}
use Rattle.file_reading.proofs.Format.{frames-read}
use Rattle.file_reading.proofs.read_frames.Goals as goal

pub returns-then-len-end : goal.returns-then-len-end
returns-then-len-end c sections = frames-cut c.args.len sections c.args.frames c.args.start _ (omega arith) (omega arith) (omega arith)

pub returns-then-len-end-2 : goal.returns-then-len-end-2
returns-then-len-end-2 c sections = frames-over c.args.len sections c.args.frames c.args.start c.if-len-end-2.true

pub returns : goal.returns
returns c sections = sym (frames-read c.args.len sections c.args.frames c.args.start (omega arith))
