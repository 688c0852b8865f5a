-- `frame_building::build` meets its contract: where nothing was laid, zeros stand beside the refusal. Assumes nothing.
use mathlib.Core.Path.{◌≡◌, sym, ap, ◌∙◌}
use native.Mathlib.Omega.{arith}
use Rattle.std.specs.Prelude.{Err}
use Rattle.frame_building.specs.Building.{building_said, asked}
use Rattle.frame_building.proofs.Judged.{way-refused}
use Rattle.frame_building.proofs.build.Goals as goal

pub returns-in_err-build_into : goal.returns-in_err-build_into
returns-in_err-build_into c =
    let args = c.args in
    let told : c.from_residual.result ≡ Err c.in_err-build_into.field-0.0 = grind arith in
    let frame = asked args.id args.remote args.own args.dlc args.data.now in
    let refused = way-refused args.way frame _ (sym c.build_into.ensures.value ∙ ap building_said c.in_err-build_into.was) in
    rw (told, refused)
