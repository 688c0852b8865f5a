-- `file_writing::write_sections` meets its contract: a store, the filters laid into the rest, the frames into the rest of that. Assumes nothing.
use native.Mathlib.Omega.{arith}
use Rattle.file_writing.specs.Writer.{filter_count, frames_part}
use Rattle.file_writing.proofs.Writer.{both-laid}
use Rattle.file_writing.proofs.write_sections.Goals as goal

pub returns : goal.returns
returns c = both-laid c.args.filters.now (frames_part c.args.frames.now) c.args.out.now (filter_count c.args.filters.now) (omega arith) _ _ c.write_filters.ensures c.write_frames.ensures
