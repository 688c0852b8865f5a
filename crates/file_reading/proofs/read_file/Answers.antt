-- `file_reading::read_file` meets its contract: each count is looked for and judged, and then all behind it is read. Assumes nothing.
use Rattle.std.proofs.Common.{◌∙◌, ap₂, ◌+◌, ◌*◌}
use Rattle.std.proofs.lemmas.Result.{err_from_is_err_and}
use borrow.Author.Tests.{lt-ltb, le-ltb}
use Rattle.file_reading.specs.Reader.{frames_at, read_of}
use Rattle.file_reading.proofs.Reader.{filters-first, frames-first}
use Rattle.file_reading.proofs.read_file.Goals as goal

pub returns-in_err-field : goal.returns-in_err-field
unfolding read_of
returns-in_err-field c =
    let p = err_from_is_err_and c.from_residual.result c.from_residual.ensures.1 in
    let cut = c.in_err-field.ensures.err in
    rw (p.1, p.2, cut.0) (simp (lt-ltb _ _ cut.1))

pub returns-then-filters-gt-FILTER_LIMIT : goal.returns-then-filters-gt-FILTER_LIMIT
unfolding read_of
returns-then-filters-gt-FILTER_LIMIT c =
    simp (le-ltb _ _ c.in_ok-field.ensures.ok, ← c.from-filters.ensures, lt-ltb _ _ c.if-filters-gt-FILTER_LIMIT.true)

pub returns-in_err-read_filters : goal.returns-in_err-read_filters
returns-in_err-read_filters c =
    let p = err_from_is_err_and c.from_residual-in_err-read_filters.result c.from_residual-in_err-read_filters.ensures.1 in
    rw (p.1, p.2)
    (c.in_err-read_filters.ensures
    ∙ filters-first _ _ c.in_ok-field.ensures.ok c.from-filters.ensures c.if-filters-gt-FILTER_LIMIT.false)

pub returns-in_err-field-2 : goal.returns-in_err-field-2
unfolding frames_at
returns-in_err-field-2 c =
    let p = err_from_is_err_and c.from_residual-in_err-field-2.result c.from_residual-in_err-field-2.ensures.1 in
    let cut = c.in_err-field-2.ensures.err in
    rw (p.1, p.2, cut.0)
    ((simp (lt-ltb _ _ cut.1) at c.in_ok-read_filters.ensures)
    ∙ filters-first _ _ c.in_ok-field.ensures.ok c.from-filters.ensures c.if-filters-gt-FILTER_LIMIT.false)

pub returns-then-frames-gt-FRAME_LIMIT : goal.returns-then-frames-gt-FRAME_LIMIT
unfolding frames_at
returns-then-frames-gt-FRAME_LIMIT c =
    (simp (le-ltb _ _ c.in_ok-field-2.ensures.ok, ← c.from.ensures, ← c.from-2.ensures, lt-ltb _ _ c.if-frames-gt-FRAME_LIMIT.true) at c.in_ok-read_filters.ensures)
    ∙ filters-first _ _ c.in_ok-field.ensures.ok c.from-filters.ensures c.if-filters-gt-FILTER_LIMIT.false

pub returns-in_err-read_frames : goal.returns-in_err-read_frames
returns-in_err-read_frames c =
    let p = err_from_is_err_and c.from_residual-in_err-read_frames.result c.from_residual-in_err-read_frames.ensures.1 in
    rw (p.1, p.2)
    (c.in_err-read_frames.ensures _
    ∙ frames-first c.args.file.now c.from-filters.result _ _ c.in_ok-field-2.ensures.ok (ap₂ (λ (x y : _). x * 256 + y) c.from.ensures c.from-2.ensures) c.if-frames-gt-FRAME_LIMIT.false
    ∙ c.in_ok-read_filters.ensures
    ∙ filters-first _ _ c.in_ok-field.ensures.ok c.from-filters.ensures c.if-filters-gt-FILTER_LIMIT.false)

pub returns : goal.returns
returns c =
    c.in_ok-read_frames.ensures _
    ∙ frames-first c.args.file.now c.from-filters.result _ _ c.in_ok-field-2.ensures.ok (ap₂ (λ (x y : _). x * 256 + y) c.from.ensures c.from-2.ensures) c.if-frames-gt-FRAME_LIMIT.false
    ∙ c.in_ok-read_filters.ensures
    ∙ filters-first _ _ c.in_ok-field.ensures.ok c.from-filters.ensures c.if-filters-gt-FILTER_LIMIT.false
