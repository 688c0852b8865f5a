-- A sequence of calls of the box's functions: each call is what the function's contract says, and its event is read off the answer.
-- Source: the outline, "The box": whole actions.
use Prim.{Unit}
use Rattle.std.specs.Prelude.{ℕ, Bool, true, false, cond, List, [], ◌∷◌, eqb}
use Rattle.std.proofs.Math.Option.{Option, none, some}
use Rattle.laws.specs.Said.{Said, refuses, gives}
use Rattle.box_records.specs.declared.Record.{Record}
use Rattle.box_queue.specs.Ring.{TakeSaid}
use Rattle.box_fifo.specs.Ring.{Outcome}
use Rattle.box_words.specs.declared.Words.{Words}
use Rattle.box_state.specs.declared.Phase as P
use Rattle.box_state.specs.declared.Phase.TheVariants as phase
use Rattle.box_state.specs.declared.ReceiveBox.{ReceiveBox}
use Rattle.box_state.specs.Calls.{arrive_of, take_of}
use Rattle.box_drain.specs.Answers.{Told, done, lost, finished, StepSaid}
use Rattle.box_drain.specs.Step.{step_of}
use Rattle.box_drain.specs.Start.{start_of}
use Rattle.box_model.specs.Lists.{arrived, took, noticed, moved, nothing}
use Rattle.box_model.specs.Calls.{Call, arrives, takes, start, step, Event, did, started, quiet, released, refused}
use Rattle.box_theorem.specs.Kit.{can}

abbrev pub arrival_event : List ℕ → Said Outcome → Event can
arrival_event a (gives o) = did (arrived a o)
arrival_event a (refuses n k) = refused n

abbrev pub taking_event : Said Bool → Record → Event can
taking_event (gives true) r = did (took (some r))
taking_event (gives false) r = did (took none)
taking_event (refuses n k) r = refused n

abbrev pub take_event : TakeSaid → Event can
take_event a = taking_event a.0 a.1

abbrev pub start_event : Words → Said (Unit {0}) → Event can
start_event w (gives u) = started w
start_event w (refuses n k) = refused n

-- what a step completes, from the step that it was, the record held before it, whether the FIFO was empty, and the record lost
abbrev pub completes : P.Phase → Record → Bool → Option Record → Event can
completes phase.Idle h b x = quiet
completes phase.Notice h b x = did (noticed x)
completes phase.Look h b x = cond b (did nothing) quiet
completes phase.Miss h b x = quiet
completes phase.Copy h b x = quiet
completes phase.Release h b x = released
completes phase.Offer h b x = did (moved h x)
completes phase.Finish h b x = quiet

abbrev pub step_event : P.Phase → Record → Bool → Said Told → Record → Event can
step_event p h b (gives done) x = completes p h b none
step_event p h b (gives lost) x = completes p h b (some x)
step_event p h b (gives (finished f)) x = completes p h b none
step_event p h b (refuses n k) x = refused n

abbrev pub stepping : P.Phase → ReceiveBox → StepSaid × ReceiveBox → Event can × ReceiveBox
stepping p g r = (step_event p g.held (eqb g.fifo.count 0) r.0.0 r.0.2, r.1)

abbrev pub call_of : ReceiveBox → Call can → Event can × ReceiveBox
call_of g (arrives a) = (arrival_event a (arrive_of g a).0, (arrive_of g a).1)
call_of g takes = (take_event (take_of g).0, (take_of g).1)
call_of g (start w) = (start_event w (start_of g w).0, (start_of g w).1)
call_of g step = stepping g.phase g (step_of g)

abbrev pub run_of : ReceiveBox → List (Call can) → List (Event can)
run_of g [] = []
run_of g (c ∷ cs) = (call_of g c).0 ∷ run_of (call_of g c).1 cs

abbrev pub end_of : ReceiveBox → List (Call can) → ReceiveBox
end_of g [] = g
end_of g (c ∷ cs) = end_of (call_of g c).1 cs
