-- `run_load`: the state that was read, or the refusal. Assumes nothing.
use mathlib.Core.Path.{refl, ◌∙◌}
use Rattle.box_script.specs.Answers.{answer_of}
use Rattle.box_script.proofs.Read.{one-stored}
use Rattle.box_script.proofs.run_load.Goals as goal

pub returns-in-Ok : goal.returns-in-Ok
unfolding answer_of
returns-in-Ok c = rw (← c.in-Ok.ensures) (refl, one-stored 0 c.args.answer.now c.requires.1)

pub returns-in-Err : goal.returns-in-Err
unfolding answer_of
returns-in-Err c = rw (← c.in-Err.ensures) (refl, one-stored c.number_byte.result c.args.answer.now c.requires.1 ∙ rw c.number_byte.ensures)
