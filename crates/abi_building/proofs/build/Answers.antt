-- `abi_building::build` meets its contract: a lent frame of another length is refused before all else, and what was built is delivered.
-- Assumes nothing.
use mathlib.Core.Path.{◌≡◌, sym, ap, ◌∙◌}
use borrow.Author.Rules.{rules}
use Rattle.laws.specs.Laid.{written}
use Rattle.frame_building.specs.Building.{build_in, building_said}
use Rattle.abi_answers.specs.Answers.{delivery_said}
use Rattle.abi_answers.proofs.Whole.{sized-no}
use Rattle.abi_building.specs.Building.{plain}
use Rattle.abi_building.proofs.Delivered.{laid-over}
use Rattle.abi_building.proofs.build.Goals as goal

pub returns-then-frame-ne13 : goal.returns-then-frame-ne13
unfolding written
returns-then-frame-ne13 c =
    record {
      value = rw (sized-no _ _ _ _ c.if-frame-ne13.true) c.wrong_length.ensures;
      frame_after = rw (sized-no _ _ _ _ c.if-frame-ne13.true);
    }

pub returns-clause-frame_after : goal.returns-clause-frame_after
returns-clause-frame_after c =
    let args = c.args in
    let told : delivery_said c.map.result ≡ building_said c.built-made.result = search rules in
    let laid = laid-over args.argument args.frame.now _ _ _ (build_in args.way (plain args.extended args.id args.remote args.own args.dlc args.«data».now))
    (told ∙ c.built-made.ensures.value) c.built-made.ensures.frame_after in
    rw (c.deliver.ensures.out_after, c.built-made.array_long) laid
