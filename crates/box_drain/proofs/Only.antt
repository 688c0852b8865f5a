-- An answer of a drain is told by what is said of it, so two that meet a contract are equal. Assumes nothing.
use Prim.{Unit}
use mathlib.Core.Path.{◌≡◌, refl, ap}
use Rattle.std.specs.Prelude.{Result, Ok, Err}
use Rattle.laws.specs.Said.{Said, refuses, gives}
use Rattle.laws.proofs.Only.{only}
use Rattle.refusals.specs.declared.Refusal.{Refusal}
use Rattle.refusals.proofs.Only.{refusal_at, refusal-at}
use Rattle.box_state.specs.declared.ReceiveBox.{ReceiveBox}
use Rattle.box_drain.specs.declared.Started.{Started}
use Rattle.box_drain.specs.declared.Command.{Command}
use Rattle.box_drain.specs.declared.Outcome.{Outcome}
use Rattle.box_drain.specs.declared.Outcome.TheVariants as outcome
use Rattle.box_drain.specs.declared.StepAnswer.{StepAnswer}
use Rattle.box_drain.specs.declared.Stepped.{Stepped}
use Rattle.box_drain.specs.Answers.{done, lost, finished, StepSaid, outcome_said, lost_in, step_said, stepped_said}
use Rattle.box_drain.specs.Start.{starting_said, started_said}

starting_back : Said (Unit {0}) → Result (Unit {0}) Refusal
starting_back (gives t) = Ok t
starting_back (refuses k n) = Err (refusal_at k n)

starting-back : (a : Result (Unit {0}) Refusal) → starting_back (starting_said a) ≡ a
unfolding starting_back
starting-back (Ok t) = refl
starting-back (Err f) = ap Err (refusal-at f)

started_back : Said (Unit {0}) × ReceiveBox → Started
started_back p = record { answer = starting_back p.0; state = p.1 }

started-back : (r : Started) → started_back (started_said r) ≡ r
unfolding started_back
started-back r = rw (starting-back r.answer)

pub only-started : (r s : Started) → started_said r ≡ started_said s → r ≡ s
only-started = only started_said started_back started-back

step_read_back : StepSaid → Result StepAnswer Refusal
step_read_back (gives done, c, x) = Ok (record { command = c; outcome = outcome.Done })
step_read_back (gives lost, c, x) = Ok (record { command = c; outcome = outcome.Lost x })
step_read_back (gives (finished f), c, x) = Ok (record { command = c; outcome = outcome.Finished f })
step_read_back (refuses k n, c, x) = Err (refusal_at k n)

outcome_back : (o : Outcome) (c : Command) → step_read_back (gives (outcome_said o), c, lost_in o) ≡ Ok (record { command = c; outcome = o })
unfolding step_read_back
outcome_back outcome.Done c = refl
outcome_back (outcome.Lost x) c = refl
outcome_back (outcome.Finished f) c = refl

step_back : (a : Result StepAnswer Refusal) → step_read_back (step_said a) ≡ a
unfolding step_read_back
step_back (Ok a) = outcome_back a.outcome a.command
step_back (Err f) = ap Err (refusal-at f)

stepped_back : StepSaid × ReceiveBox → Stepped
stepped_back p = record { answer = step_read_back p.0; state = p.1 }

stepped-back : (r : Stepped) → stepped_back (stepped_said r) ≡ r
unfolding stepped_back
stepped-back r = rw (step_back r.answer)

pub only-stepped : (r s : Stepped) → stepped_said r ≡ stepped_said s → r ≡ s
only-stepped = only stepped_said stepped_back stepped-back
