-- `file_report::FrameFile::lay` meets its contract: the text is put where it fits. Assumes nothing.
use Rattle.std.proofs.lemmas.Result.{err_from_is_err_and}
use Rattle.std.proofs.Common.{refl}
use Rattle.laws.proofs.Laid.{laying-short, laying-fits}
use Rattle.file_report.specs.Text.{text_of}
use Rattle.file_report.proofs.FrameFile.lay.Goals as goal

pub returns-in_err-judge : goal.returns-in_err-judge
returns-in_err-judge c =
    let p = err_from_is_err_and c.from_residual.result c.from_residual.ensures.1 in
    let short = c.in_err-judge.ensures.err in
    rw (p.1, p.2, short.0) (laying-short (text_of c.args.self.now.bytes.now) c.args.out.now _ refl short.1)

pub returns : goal.returns
returns c = laying-fits (text_of c.args.self.now.bytes.now) c.args.out.now _ _ c.put.ensures.0 c.in_ok-judge.ensures.ok c.put.ensures.1
