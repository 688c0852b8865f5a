-- `abi_files::chherbolat_read_file` meets its contract: what the reader found fits its four fields. Assumes nothing.
use mathlib.Core.Path.{sym}
use Rattle.abi_files.proofs.Found.{found-fits}
use Rattle.abi_files.proofs.chherbolat_read_file.Goals as goal

pub found_number-requires : goal.found_number-requires
found_number-requires c = found-fits _ c.in-Ok.sections (sym c.in-Ok.ensures)
