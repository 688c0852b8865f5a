-- Calls on a lent box: of the box at entry, what is answered and the box at exit.
-- Source: the outline, "The box", and refusals 8, 9 and 10.
use Prim.{Unit}
use Rattle.std.specs.Prelude.{ℕ, ◌≡◌, List, Result}
use Rattle.std.proofs.Math.Option.{Option}
use Rattle.std.specs.Prelude as P
use Rattle.refusals.specs.declared.Refusal.{Refusal}
use Rattle.box_records.specs.declared.Record.{Record}
use Rattle.box_queue.specs.Ring.{take_said}
use Rattle.box_words.specs.declared.Words.{Words}
use Rattle.box_state.specs.declared.ReceiveBox.{ReceiveBox}
use Rattle.box_fifo.specs.declared.Arrival.{Arrival}
use Rattle.box_state.specs.Calls.{arriving_said, arrive_of, take_of}
use Rattle.box_drain.specs.declared.StepAnswer.{StepAnswer}
use Rattle.box_drain.specs.Answers.{step_said}
use Rattle.box_drain.specs.Step.{step_of}
use Rattle.box_drain.specs.Start.{starting_said, start_of}
use Rattle.box_drain.specs.Run.{Call, arrives, takes, starts, steps, refused_with}

abbrev pub arrive_lent : ReceiveBox → List ℕ → Result Arrival Refusal → ReceiveBox → Type 0
arrive_lent entry frame answer exit = (arriving_said answer ≡ (arrive_of entry frame).0) × (exit ≡ (arrive_of entry frame).1)

abbrev pub take_lent : ReceiveBox → Result (P.Option Record) Refusal → ReceiveBox → Type 0
take_lent entry answer exit = (take_said answer ≡ (take_of entry).0) × (exit ≡ (take_of entry).1)

abbrev pub start_lent : ReceiveBox → Words → Result (Unit {0}) Refusal → ReceiveBox → Type 0
start_lent entry words answer exit = (starting_said answer ≡ (start_of entry words).0) × (exit ≡ (start_of entry words).1)

abbrev pub step_lent : ReceiveBox → Result StepAnswer Refusal → ReceiveBox → Type 0
step_lent entry answer exit = (step_said answer ≡ (step_of entry).0) × (exit ≡ (step_of entry).1)

-- any call: its answer, what the call promises, and the number that an answer refuses with
abbrev pub AnswerTo : Call → Type 0
AnswerTo (arrives frame) = Result Arrival Refusal
AnswerTo takes = Result (P.Option Record) Refusal
AnswerTo (starts words) = Result (Unit {0}) Refusal
AnswerTo steps = Result StepAnswer Refusal

abbrev pub call_lent : (c : Call) → ReceiveBox → AnswerTo c → ReceiveBox → Type 0
call_lent (arrives frame) entry answer exit = arrive_lent entry frame answer exit
call_lent takes entry answer exit = take_lent entry answer exit
call_lent (starts words) entry answer exit = start_lent entry words answer exit
call_lent steps entry answer exit = step_lent entry answer exit

abbrev pub refused_in : (c : Call) → AnswerTo c → Option ℕ
refused_in (arrives frame) answer = refused_with (arriving_said answer)
refused_in takes answer = refused_with (take_said answer).0
refused_in (starts words) answer = refused_with (starting_said answer)
refused_in steps answer = refused_with (step_said answer).0
