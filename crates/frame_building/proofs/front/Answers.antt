-- `frame_building::front` meets its contract: the identifier's word is the row of its format. Assumes nothing.
use mathlib.Core.Path.{ap, ap₂, sym, ◌∙◌}
use mathlib.Core.List.{[], ◌∷◌}
use Rattle.identifiers.specs.declared.Id.TheVariants.{Standard, Extended}
use Rattle.identifiers.specs.declared.Id.{Id}
use Rattle.frame_building.specs.Buffer.{buffer_of}
use Rattle.frame_building.specs.Building.{asked}
use Rattle.frame_building.proofs.Buffer.{fronted, standard-bytes, extended-bytes}
use Rattle.frame_building.proofs.front.Goals as goal

pub returns-in-Standard : goal.returns-in-Standard
returns-in-Standard c =
    let id = c.in-Standard.standard in
    let small = rw c.in-Standard.is at c.requires.0 in
    let ids = ap₂ (λ x y. x ∷ y ∷ []) c.low_byte.ensures c.low_byte-in-Standard.ensures ∙ standard-bytes id.0 small in
    fronted (asked (Standard id) c.args.remote c.args.own c.args.code []) _ _ c.info.ensures ids
    ∙ ap (λ (i : Id). buffer_of (asked i c.args.remote c.args.own c.args.code [])) (sym c.in-Standard.is)

pub returns-in-Extended : goal.returns-in-Extended
returns-in-Extended c =
    let id = c.in-Extended.extended in
    let small = rw c.in-Extended.is at c.requires.0 in
    let ids =
    ap₂ (λ x y. x ∷ y) c.low_byte-in-Extended.ensures
    (ap₂ (λ x y. x ∷ y) c.low_byte-in-Extended-2.ensures (ap₂ (λ x y. x ∷ y ∷ []) c.low_byte-in-Extended-3.ensures c.low_byte-in-Extended-4.ensures))
    ∙ extended-bytes id.0 small in
    fronted (asked (Extended id) c.args.remote c.args.own c.args.code []) _ _ c.info-in-Extended.ensures ids
    ∙ ap (λ (i : Id). buffer_of (asked i c.args.remote c.args.own c.args.code [])) (sym c.in-Extended.is)
