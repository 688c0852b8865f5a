-- `file_report::FrameFile::is_accepted` meets its contract: the filters that are held accept what the file's do. Assumes nothing.
use Rattle.std.proofs.Common.{◌∙◌, ap, rules, tests}
use Rattle.std.proofs.lemmas.Iterator.{YieldsList-from_slice}
use Rattle.std.proofs.lemmas.Iterator.Search.{any_from_yields_List}
use Rattle.file_report.specs.Held.{agrees}
use Rattle.file_report.specs.Text.{any}
use Rattle.file_report.proofs.Held.{any-map, row-is}
use Rattle.file_report.proofs.FrameFile.is_accepted.Goals as goal

pub returns : goal.returns
returns c =
    let file = c.args.self.now in
    any_from_yields_List (agrees c.shown-shown.result) _ _ _ c.any.ensures.ran (YieldsList-from_slice file.filters.now cc) (λ x b q k. search (rules, tests))
    ∙ any-map (agrees c.shown-shown.result) file.filters.now
    ∙ ap any (row-is file.bytes.now file.sections file.are_bytes file.is_read file.filters.now file.are_held c.args.index c.shown-shown.result c.shown-shown.ensures)
