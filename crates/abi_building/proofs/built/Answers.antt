-- `abi_building::built` meets its contract: building by plain numbers is building by identifiers (proofs/Delivered.antt). Assumes nothing.
use mathlib.Core.Path.{◌≡◌, sym, ap, ◌∙◌}
use Rattle.frame_building.specs.Building.{build_in, built_over, building_said}
use Rattle.abi_building.specs.Building.{plain}
use Rattle.abi_building.proofs.Delivered.{asked-plain, none-built}
use Rattle.abi_building.proofs.built.Goals as goal

pub returns-in-Ok-clause-value : goal.returns-in-Ok-clause-value
returns-in-Ok-clause-value c =
    let args = c.args in
    let made = sym c.id_of.ensures ∙ c.in-Ok.is in
    rw (c.build_into.ensures.value, asked-plain args.extended args.id _ made args.remote args.own args.dlc args.«data».now)

pub returns-in-Ok-clause-frame_after : goal.returns-in-Ok-clause-frame_after
returns-in-Ok-clause-frame_after c =
    let args = c.args in
    let made = sym c.id_of.ensures ∙ c.in-Ok.is in
    rw (c.build_into.ensures.frame_after, asked-plain args.extended args.id _ made args.remote args.own args.dlc args.«data».now)

pub returns-in-Err-clause-value : goal.returns-in-Err-clause-value
returns-in-Err-clause-value c =
    let args = c.args in
    let none = sym c.id_of.ensures ∙ c.in-Err.is in
    rw (none-built args.way (plain args.extended args.id args.remote args.own args.dlc args.«data».now) _ none)

pub returns-in-Err-clause-frame_after : goal.returns-in-Err-clause-frame_after
returns-in-Err-clause-frame_after c =
    let args = c.args in
    let none = sym c.id_of.ensures ∙ c.in-Err.is in
    rw (none-built args.way (plain args.extended args.id args.remote args.own args.dlc args.«data».now) _ none)
