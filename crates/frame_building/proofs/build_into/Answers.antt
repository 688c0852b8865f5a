-- `frame_building::build_into` meets its contract: what was judged good, by the way's number, is laid out; a refusal leaves all as it was. Assumes nothing.
use Prim.Native.Nat.{ℕ, ◌%◌}
use mathlib.Core.Path.{◌≡◌, sym, ap, ◌∙◌}
use native.Mathlib.Omega.{arith}
use borrow.Author.Rules.{rules}
use Rattle.std.specs.Prelude.{Result, Ok, Err, ⊤, replicate}
use Rattle.refusals.specs.declared.Refusal.{Refusal}
use Rattle.refusals.specs.Table.{refusal_said}
use Rattle.identifiers.specs.Limits.{is_extended}
use Rattle.frame_info.proofs.Info.{start-bound}
use Rattle.frame_reading.specs.Buffer.{Frame}
use Rattle.frame_building.specs.Building.{judged_by, build_by, most_of, build_in, building_said, asked}
use Rattle.frame_building.specs.Good.{Good}
use Rattle.frame_building.specs.declared.Way.{Way}
use Rattle.frame_building.proofs.Judged.{judged-good, four-bits, way-built, way-gave, way-refused}
use Rattle.frame_building.proofs.Buffer.{filled}
use Rattle.frame_building.proofs.build_into.Goals as goal

-- a frame that was judged by the way's number, and is to be made
made-good : (way : Way) (f : Frame) (most : ℕ) (said : Result ⊤ Refusal) (nothing : ⊤) → most ≡ most_of way → building_said said ≡ judged_by most f
    → said ≡ Ok nothing → Good (most_of way) f
made-good way f most said nothing number judged made =
    judged-good (most_of way) f (four-bits way) (ap (λ (n : ℕ). judged_by n f) (sym number) ∙ sym judged ∙ ap building_said made)

pub front-front-requires : goal.front-front-requires
front-front-requires c =
    let args = c.args in
    let frame = asked args.id args.remote args.own args.dlc args.data.now in
    let good = made-good args.way frame _ _ _ c.most.ensures c.judge.ensures c.in_ok-judge.was in
    (good.within, search rules)

pub with_data-requires : goal.with_data-requires
with_data-requires c =
    let args = c.args in
    let frame = asked args.id args.remote args.own args.dlc args.data.now in
    let good = made-good args.way frame _ _ _ c.most.ensures c.judge.ensures c.in_ok-judge.was in
    (omega (arith, c.data_start.ensures, start-bound (is_extended args.id)), good.short)

pub returns-clause-value : goal.returns-clause-value
returns-clause-value c =
    let args = c.args in
    let frame = asked args.id args.remote args.own args.dlc args.data.now in
    let good = made-good args.way frame _ _ _ c.most.ensures c.judge.ensures c.in_ok-judge.was in
    rw (way-gave args.way frame good)

pub returns-clause-frame_after : goal.returns-clause-frame_after
returns-clause-frame_after c =
    let args = c.args in
    let frame = asked args.id args.remote args.own args.dlc args.data.now in
    let good = made-good args.way frame _ _ _ c.most.ensures c.judge.ensures c.in_ok-judge.was in
    let code : args.dlc % 16 ≡ args.dlc = omega (arith, good.coded) in
    rw (c.with_data.ensures, c.front-front.ensures, c.data_start.ensures, code, filled frame, way-gave args.way frame good)

-- what is built where judging refused
refused : (way : Way) (f : Frame) (most : ℕ) (said : Result ⊤ Refusal) (refusal : Refusal) → most ≡ most_of way → building_said said ≡ judged_by most f
    → said ≡ Err refusal → build_in way f ≡ (refusal_said refusal, replicate 13 0)
unfolding build_by
refused way f most said refusal number judged none =
    way-refused way f refusal
    (ap (λ a. a.0) (way-built way f) ∙ ap (λ (n : ℕ). judged_by n f) (sym number) ∙ sym judged ∙ ap building_said none)

pub returns-in_err-judge-clause-value : goal.returns-in_err-judge-clause-value
returns-in_err-judge-clause-value c =
    let args = c.args in
    let frame = asked args.id args.remote args.own args.dlc args.data.now in
    let told : c.from_residual.result ≡ Err c.in_err-judge.field-0.0 = grind arith in
    rw (told, refused args.way frame _ _ _ c.most.ensures c.judge.ensures c.in_err-judge.was)

pub returns-in_err-judge-clause-frame_after : goal.returns-in_err-judge-clause-frame_after
returns-in_err-judge-clause-frame_after c =
    let args = c.args in
    let frame = asked args.id args.remote args.own args.dlc args.data.now in
    rw (refused args.way frame _ _ _ c.most.ensures c.judge.ensures c.in_err-judge.was)
