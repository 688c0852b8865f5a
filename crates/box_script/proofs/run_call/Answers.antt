-- `run_call`: which call it is. Assumes nothing.
use Prim.Native.Nat.{ℕ, ◌+◌}
use mathlib.Core.Path.{◌≡◌, refl, sym, ap, ◌∙◌}
use mathlib.Core.List.{List}
use lib.ListN.{length}
use native.Mathlib.Omega.{arith}
use Rattle.octets.proofs.Part.{part-within}
use Rattle.box_words.specs.declared.Words.{Words}
use Rattle.box_drain.specs.Run.{arrives, takes, starts, steps}
use Rattle.box_script.specs.declared.call.Call.{Call}
use Rattle.box_script.specs.declared.call.Call.TheVariants as call
use Rattle.box_script.specs.Format.{first_byte, call_length, calls, tells}
use Rattle.box_script.specs.Answers.{call_answer, answer_of, answer_length}
use Rattle.box_script.proofs.Format.{arrival-here, take-here, start-here, step-here, state-here, stands-long, stands-first}
use Rattle.box_script.proofs.Run.{did}
use Rattle.box_script.proofs.run_call.Goals as goal

-- how long the answer of a known kind is
sized : (answer : List ℕ) (c d : Call) → length answer ≡ answer_length (first_byte c) → c ≡ d → length answer ≡ answer_length (first_byte d)
sized answer c d e same = e ∙ ap (λ (k : Call). answer_length (first_byte k)) same

pub run_arrival-requires : goal.run_arrival-requires
unfolding answer_length
run_arrival-requires c = sized c.args.answer.now c.args.call call.Arrival c.requires.1 c.in-Arrival.is

pub run_take-requires : goal.run_take-requires
unfolding answer_length
run_take-requires c = sized c.args.answer.now c.args.call call.Take c.requires.1 c.in-Take.is

pub run_start-requires : goal.run_start-requires
unfolding answer_length
run_start-requires c = sized c.args.answer.now c.args.call call.Start c.requires.1 c.in-Start.is

pub run_step-requires : goal.run_step-requires
unfolding answer_length
run_step-requires c = sized c.args.answer.now c.args.call call.Step c.requires.1 c.in-Step.is

pub put_state-requires : goal.put_state-requires
unfolding answer_length
put_state-requires c = sized c.args.answer.now c.args.call call.State c.requires.1 c.in-State.is

pub words_at-requires : goal.words_at-requires
unfolding call_length
words_at-requires c = let long = stands-long c.args.script.now c.args.at c.args.call call.Start c.requires.0 c.in-Start.is in omega arith

pub run_load-requires : goal.run_load-requires
unfolding call_length answer_length
run_load-requires c =
    let long = stands-long c.args.script.now c.args.at c.args.call call.Load c.requires.0 c.in-Load.is in
    (omega arith, sized c.args.answer.now c.args.call call.Load c.requires.1 c.in-Load.is)

pub returns-in-Arrival : goal.returns-in-Arrival
unfolding call_length call_answer answer_of
returns-in-Arrival c =
    let s = c.args.script.now in
    let at = c.args.at in
    let here = stands-first s at c.args.call call.Arrival c.requires.0 c.in-Arrival.is in
    let long = stands-long s at c.args.call call.Arrival c.requires.0 c.in-Arrival.is in
    let read = c.array_at.ensures ∙ part-within 13 (at + 1) s (omega arith) in
    did s at c.args.state c.run_arrival.result c.run_arrival.new.answer (calls (arrives c.array_at.result)) (arrival-here s at here ∙ ap (λ (f : List ℕ). calls (arrives f)) (sym read)) c.run_arrival.ensures

pub returns-in-Take : goal.returns-in-Take
unfolding call_answer answer_of
returns-in-Take c =
    let s = c.args.script.now in
    did s c.args.at c.args.state c.run_take.result c.run_take.new.answer (calls takes) (take-here s c.args.at (stands-first s c.args.at c.args.call call.Take c.requires.0 c.in-Take.is)) c.run_take.ensures

pub returns-in-Start : goal.returns-in-Start
unfolding call_answer answer_of
returns-in-Start c =
    let s = c.args.script.now in
    let here = start-here s c.args.at (stands-first s c.args.at c.args.call call.Start c.requires.0 c.in-Start.is) ∙ ap (λ (w : Words). calls (starts w)) (sym c.words_at.ensures) in
    did s c.args.at c.args.state c.run_start.result c.run_start.new.answer (calls (starts c.words_at.result)) here c.run_start.ensures

pub returns-in-Step : goal.returns-in-Step
unfolding call_answer answer_of
returns-in-Step c =
    let s = c.args.script.now in
    did s c.args.at c.args.state c.run_step.result c.run_step.new.answer (calls steps) (step-here s c.args.at (stands-first s c.args.at c.args.call call.Step c.requires.0 c.in-Step.is)) c.run_step.ensures

pub returns-in-State : goal.returns-in-State
unfolding answer_of
returns-in-State c =
    let s = c.args.script.now in
    let at = c.args.at in
    did s at c.args.state c.args.state c.put_state.new.out tells (state-here s at (stands-first s at c.args.call call.State c.requires.0 c.in-State.is)) (refl, c.put_state.ensures)
