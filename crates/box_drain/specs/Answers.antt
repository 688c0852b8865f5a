-- What a step of a drain tells: its answer, its command and its lost record, with the state after it.
-- Source: the outline, "The box", steps 1 to 4, and refusals 9 and 10.
use Rattle.std.specs.Prelude.{Result, Ok, Err}
use Rattle.laws.specs.Said.{Said, gives}
use Rattle.refusals.specs.Table.{refusal_said}
use Rattle.refusals.specs.declared.Refusal.{Refusal}
use Rattle.box_records.specs.declared.Record.{Record}
use Rattle.box_records.specs.Blank.{blank}
use Rattle.box_words.specs.declared.Finished.{Finished}
use Rattle.box_state.specs.declared.ReceiveBox.{ReceiveBox}
use Rattle.box_drain.specs.declared.Command.{Command}
use Rattle.box_drain.specs.declared.Command.TheVariants as command
use Rattle.box_drain.specs.declared.Outcome.{Outcome}
use Rattle.box_drain.specs.declared.Outcome.TheVariants as outcome
use Rattle.box_drain.specs.declared.StepAnswer.{StepAnswer}
use Rattle.box_drain.specs.declared.Stepped.{Stepped}

-- what a step tells: no record lost, one lost, or the drain's end with its wakes and enable word
pub data Told : Type 0 where
  done lost : Told
  finished : Finished → Told

-- with its command, and its lost record (blank where there is none)
abbrev pub StepSaid : Type 0
StepSaid = Said Told × Command × Record

abbrev pub outcome_said : Outcome → Told
outcome_said outcome.Done = done
outcome_said (outcome.Lost x) = lost
outcome_said (outcome.Finished f) = finished f

abbrev pub lost_in : Outcome → Record
lost_in outcome.Done = blank
lost_in (outcome.Lost x) = x
lost_in (outcome.Finished f) = blank

abbrev pub step_said : Result StepAnswer Refusal → StepSaid
step_said (Ok a) = (gives (outcome_said a.outcome), a.command, lost_in a.outcome)
step_said (Err f) = (refusal_said f, command.Nothing, blank)

abbrev pub stepped_said : Stepped → StepSaid × ReceiveBox
stepped_said r = (step_said r.answer, r.state)

abbrev pub quietly : Command → ReceiveBox → StepSaid × ReceiveBox
quietly c g = ((gives done, c, blank), g)

abbrev pub refused_step : Refusal → ReceiveBox → StepSaid × ReceiveBox
refused_step f g = ((refusal_said f, command.Nothing, blank), g)
