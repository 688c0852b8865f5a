-- `file_writing::write_filters` meets its contract: the filters are put where there is room. Assumes nothing.
use native.Mathlib.Omega.{arith}
use Rattle.text.proofs.Put.{text-put}
use Rattle.file_writing.proofs.write_filters.Goals as goal

pub returns : goal.returns
returns c = text-put 0 c.args.filters.now c.args.rest.now _ c.put_text.ensures.out_after (omega arith)
