-- `file_report::FrameFile::shown` meets its contract: the frame at an index is within the file. Assumes nothing.
use Rattle.std.proofs.Common.{◌∙◌, ap, arith}
use Rattle.octets.proofs.Part.{part-within}
use Rattle.filter_matcher.specs.Shown.{show_of}
use Rattle.file_report.proofs.Frames.{within}
use Rattle.file_report.proofs.FrameFile.shown.Goals as goal

pub overflow_mul-at : goal.overflow_mul-at
overflow_mul-at c =
    let file = c.args.self.now in
    let fits = within file.bytes.now file.sections file.is_read in
    omega (arith, fits.few-frames)

pub overflow_add-at : goal.overflow_add-at
overflow_add-at c =
    let file = c.args.self.now in
    let fits = within file.bytes.now file.sections file.is_read in
    omega (arith, fits.few-frames, fits.frames-low)

pub returns : goal.returns
returns c =
    let file = c.args.self.now in
    let fits = within file.bytes.now file.sections file.is_read in
    c.show.ensures ∙ ap show_of (c.array_at.ensures ∙ part-within 13 _ file.bytes.now (omega (arith, fits.frames-within)))
