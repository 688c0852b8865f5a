-- `abi_list::chherbolat_filter_from_list` meets its contract: a slice of another length is refused first, else what the list is answered is delivered. Assumes nothing.
use mathlib.Core.Path.{◌∙◌}
use lib.ListN.{length}
use Rattle.laws.specs.Laid.{written}
use Rattle.filter_list.specs.Answers.{listing_of}
use Rattle.abi_answers.proofs.Whole.{sized-yes, sized-no}
use Rattle.abi_list.proofs.chherbolat_filter_from_list.Goals as goal

pub returns-then-registers-ne8 : goal.returns-then-registers-ne8
unfolding written
returns-then-registers-ne8 c =
    let wrong = sized-no 8 3 c.args.registers.now (listing_of c.args.extended c.args.list.now (length c.args.pattern.now)) c.if-registers-ne8.true in
    record {
      value = rw wrong c.wrong_length.ensures;
      pattern_after = rw wrong;
      registers_after = rw wrong;
    }

pub returns-in-Ok-clause-pattern_after : goal.returns-in-Ok-clause-pattern_after
returns-in-Ok-clause-pattern_after c = c.from_list.ensures.pattern_after ∙ rw (sized-yes 8 3 c.args.registers.now _ c.if-registers-ne8.false)

pub returns-in-Err-clause-pattern_after : goal.returns-in-Err-clause-pattern_after
returns-in-Err-clause-pattern_after c = c.from_list.ensures.pattern_after ∙ rw (sized-yes 8 3 c.args.registers.now _ c.if-registers-ne8.false)
