-- `file_report::report` meets its contract: the text is that of what the reader answered. Assumes nothing.
use Rattle.std.proofs.Common.{sym, arith}
use lib.ListN.{length-take}
use Rattle.file_report.proofs.Held.{held-many}
use Rattle.file_report.proofs.Frames.{text-refused, same_text}
use Rattle.file_report.proofs.report.Goals as goal

pub slice_bounds-held-end : goal.slice_bounds-held-end
slice_bounds-held-end c =
    let many = held-many c.args.file.now c.in-Ok.sections _ c.read_filters-held.ensures in
    omega (arith, simp length-take at many)

pub slice_bounds-filters-end : goal.slice_bounds-filters-end
slice_bounds-filters-end c = sym (held-many c.args.file.now c.in-Ok.sections _ c.read_filters-held.ensures)

pub returns-in-Err : goal.returns-in-Err
returns-in-Err c =
    let both = same_text _ _ c.args.out.now _ _ (text-refused c.args.file.now _ (sym c.in-Err.ensures)) c.report_bad.ensures in
    record { result_value = both.0; out_after = both.1 }
