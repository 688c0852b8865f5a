-- `frame_reading::identifier` meets its contract: the format picks the row, and the row's field is within the format's limit. Assumes nothing.
use mathlib.Core.Path.{sym, ◌∙◌}
use mathlib.Core.Bool.{true, false}
use Rattle.frame_reading.proofs.OwnFormat.{own-identifier}
use Rattle.frame_reading.proofs.identifier.Goals as goal

pub returns-then-is_extended_format : goal.returns-then-is_extended_format
returns-then-is_extended_format c =
    let own = sym c.is_extended_format.ensures ∙ c.if-is_extended_format.true in
    (own-identifier _ true _ own c.extended_raw.ensures.0, c.extended_raw.ensures.1)

pub returns : goal.returns
returns c =
    let own = sym c.is_extended_format.ensures ∙ c.if-is_extended_format.false in
    (own-identifier _ false _ own c.standard_raw.ensures.0, c.standard_raw.ensures.1)
