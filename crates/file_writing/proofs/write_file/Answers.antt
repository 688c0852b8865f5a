-- `file_writing::write_file` meets its contract: what was judged good is laid out; a refusal leaves the output. Assumes nothing.
use Rattle.std.proofs.Common.{sym, ◌∙◌}
use Rattle.laws.specs.Laid.{written}
use Rattle.file_writing.proofs.Writer.{whole}
use Rattle.file_writing.proofs.write_file.Goals as goal

pub write_sections-requires : goal.write_sections-requires
write_sections-requires c =
    let good = whole _ _ _ _ (sym c.in_ok-length.ensures) in
    (good.fits, good.filters-within, good.frames-within)

pub returns-clause-out_after : goal.returns-clause-out_after
unfolding written
returns-clause-out_after c = c.write_sections.ensures ∙ rw (sym c.in_ok-length.ensures)

pub returns-in_err-length-clause-out_after : goal.returns-in_err-length-clause-out_after
unfolding written
returns-in_err-length-clause-out_after c = rw (sym c.in_err-length.ensures)
