-- `filter_matcher::shown::show` meets its contract: the identifier's case is the frame's format, which picks the rows, and the frame's readers give the numbers.
-- Assumes nothing.
use mathlib.Core.Path.{ap, ◌∙◌}
use mathlib.Core.Bool.{true}
use Rattle.laws.specs.Row.{bit}
use Rattle.filter_matcher.proofs.Rows.{no-data, standard-shown, shown_by, read_as}
use Rattle.filter_matcher.proofs.shown.show.Goals as goal

pub returns-in-Extended : goal.returns-in-Extended
returns-in-Extended c =
    let frame = c.args.frame.now in
    let rtr = c.wide-rtr.ensures.0 ∙ c.one_bit.ensures.0 ∙ ap bit c.is_remote_request.ensures in
    c.show_extended.ensures
    ∙ shown_by frame true _ _ 0 0 0 (read_as _ _ _ c.in-Extended.is c.identifier-id.ensures).0 rtr (no-data _ _ _ _ _)

pub returns-in-Standard : goal.returns-in-Standard
returns-in-Standard c =
    let frame = c.args.frame.now in
    let own = (read_as _ _ _ c.in-Standard.is c.identifier-id.ensures).0 in
    let rtr = c.wide-rtr.ensures.0 ∙ c.one_bit.ensures.0 ∙ ap bit c.is_remote_request.ensures in
    c.show_standard.ensures
    ∙ standard-shown frame _ _ _ _ _ own rtr c.bytes_in-bytes.ensures c.wide.ensures.0 c.wide-in-Standard.ensures.0
