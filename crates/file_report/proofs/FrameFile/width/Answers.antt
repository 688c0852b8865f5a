-- `file_report::FrameFile::width` meets its contract: there are as many filters as the file has. Assumes nothing.
use Rattle.std.proofs.Common.{◌∙◌, ap, arith, max}
use Rattle.file_report.proofs.Text.{width-max}
use Rattle.file_report.proofs.Held.{held-many}
use Rattle.file_report.proofs.Frames.{within}
use Rattle.file_report.proofs.FrameFile.width.Goals as goal

pub returns : goal.returns
returns c =
    let file = c.args.self.now in
    let many = held-many file.bytes.now file.sections file.filters.now file.are_held in
    let fits = within file.bytes.now file.sections file.is_read in
    (c.max.ensures ∙ ap (λ n. max n 1) many ∙ width-max file.sections.filters, omega (arith, fits.few-filters, many))
