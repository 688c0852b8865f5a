-- A call is refused exactly when a refusal is due, and then hands the box back equal: of every box, also of one that breaks the rules.
-- A box that came from a fresh one is never refused with 10. Assumes nothing.
use Prim.Native.Nat.{ℕ}
use mathlib.Core.Path.{◌≡◌, refl, sym, ◌∙◌}
use mathlib.Core.Bool.{Bool, true, false, cond, ◌&&◌}
use mathlib.Core.List.{List}
use mathlib.Core.Option.{none, some}
use lib.Dec.{ltb}
use Rattle.laws.proofs.Bools.{both_true}
use Rattle.box_queue.specs.Ring as Q
use Rattle.box_queue.specs.Ring.{queue_limit, queue_ok}
use Rattle.box_fifo.specs.Ring.{fifo_ok}
use Rattle.box_words.specs.declared.Words.{Words}
use Rattle.box_state.specs.declared.Phase as P
use Rattle.box_state.specs.declared.Phase.TheVariants as phase
use Rattle.box_state.specs.declared.ReceiveBox.{ReceiveBox}
use Rattle.box_state.specs.Rules.{is_idle, phase_ok, box_ok}
use Rattle.box_state.specs.Calls.{fresh_box, arrive_of, take_of}
use Rattle.box_drain.specs.Step.{offering, notice_step, look_step, miss_step, copy_step, release_step, offer_step, finish_step, by_phase, step_of}
use Rattle.box_drain.specs.Start.{start_of}
use Rattle.box_drain.specs.Run.{Call, arrives, takes, starts, steps, refused_with, refusal_of, after, after_all, untimely, refusal_due}
use Rattle.box_drain.proofs.Kept.{rules-for-ever}

module _ (g : ReceiveBox) where
  ok-queue : box_ok g ≡ true → queue_ok queue_limit g.queue ≡ true
  unfolding box_ok
  ok-queue e =
      (both_true (queue_ok queue_limit g.queue) (phase_ok g.phase g)
      (both_true (fifo_ok g.fifo) (queue_ok queue_limit g.queue && phase_ok g.phase g) e).1).0

  arrive-by : (frame : List ℕ) (b : Bool) → box_ok g ≡ b → refusal_of g (arrives frame) ≡ cond b none (some 10)
  unfolding arrive_of
  arrive-by frame true e = rw e
  arrive-by frame false e = rw e

  take_by : (b c : Bool) → box_ok g ≡ b → ltb 0 g.queue.count ≡ c → refusal_of g takes ≡ cond b none (some 10)
  unfolding take_of Q.take_of
  take_by true true e h = rw (e, ok-queue e, h)
  take_by true false e h = rw (e, ok-queue e, h)
  take_by false c e h = rw e

  start-by : (w : Words) (b c : Bool) → box_ok g ≡ b → is_idle g.phase ≡ c → refusal_of g (starts w) ≡ cond b (cond c none (some 8)) (some 10)
  unfolding start_of
  start-by w true true e h = rw (e, h)
  start-by w true false e h = rw (e, h)
  start-by w false c e h = rw e

  -- a step of a drain that runs is not refused
  notice-by : (b : Bool) → box_ok g ≡ true → ltb g.queue.count queue_limit ≡ b → refused_with (notice_step g).0.0 ≡ none
  unfolding notice_step offering Q.offer_of
  notice-by true e h = rw (ok-queue e, h)
  notice-by false e h = rw (ok-queue e, h)

  offer-by : (b : Bool) → box_ok g ≡ true → ltb g.queue.count queue_limit ≡ b → refused_with (offer_step g).0.0 ≡ none
  unfolding offer_step offering Q.offer_of
  offer-by true e h = rw (ok-queue e, h)
  offer-by false e h = rw (ok-queue e, h)

  phase-by : (p : P.Phase) → box_ok g ≡ true → refused_with (by_phase p g).0.0 ≡ untimely steps (is_idle p)
  unfolding look_step miss_step copy_step release_step finish_step
  phase-by phase.Idle e = refl
  phase-by phase.Notice e = notice-by (ltb g.queue.count queue_limit) e refl
  phase-by phase.Look e = refl
  phase-by phase.Miss e = refl
  phase-by phase.Copy e = refl
  phase-by phase.Release e = refl
  phase-by phase.Offer e = offer-by (ltb g.queue.count queue_limit) e refl
  phase-by phase.Finish e = refl

  step_by : (b : Bool) → box_ok g ≡ b → refusal_of g steps ≡ cond b (untimely steps (is_idle g.phase)) (some 10)
  unfolding step_of
  step_by true e = rw e (phase-by g.phase e)
  step_by false e = rw e

pub refused-exactly : (g : ReceiveBox) (c : Call) → refusal_of g c ≡ refusal_due g c
unfolding refusal_due
refused-exactly g (arrives frame) = arrive-by g frame (box_ok g) refl
refused-exactly g takes = take_by g (box_ok g) (ltb 0 g.queue.count) refl refl
refused-exactly g (starts w) = start-by g w (box_ok g) (is_idle g.phase) refl refl
refused-exactly g steps = step_by g (box_ok g) refl

-- a call that is refused hands the box back
idle-step : (p : P.Phase) (g : ReceiveBox) → is_idle p ≡ true → (by_phase p g).1 ≡ g
idle-step phase.Idle g e = refl
idle-step phase.Notice g e = cc
idle-step phase.Look g e = cc
idle-step phase.Miss g e = cc
idle-step phase.Copy g e = cc
idle-step phase.Release g e = cc
idle-step phase.Offer g e = cc
idle-step phase.Finish g e = cc

arrive-broken : (g : ReceiveBox) (frame : List ℕ) → box_ok g ≡ false → (arrive_of g frame).1 ≡ g
unfolding arrive_of
arrive-broken g frame e = rw e

take-broken : (g : ReceiveBox) → box_ok g ≡ false → (take_of g).1 ≡ g
unfolding take_of
take-broken g e = rw e

start-broken : (g : ReceiveBox) (w : Words) → box_ok g ≡ false → (start_of g w).1 ≡ g
unfolding start_of
start-broken g w e = rw e

step-broken : (g : ReceiveBox) → box_ok g ≡ false → (step_of g).1 ≡ g
unfolding step_of
step-broken g e = rw e

broken-back : (g : ReceiveBox) (c : Call) → box_ok g ≡ false → after g c ≡ g
broken-back g (arrives frame) e = arrive-broken g frame e
broken-back g takes e = take-broken g e
broken-back g (starts w) e = start-broken g w e
broken-back g steps e = step-broken g e

start_back : (g : ReceiveBox) (w : Words) (n : ℕ) (b : Bool) → is_idle g.phase ≡ b → box_ok g ≡ true → cond b none (some 8) ≡ some n → (start_of g w).1 ≡ g
unfolding start_of
start_back g w n true i e h = cc
start_back g w n false i e h = rw (e, i)

step_back : (g : ReceiveBox) (n : ℕ) (b : Bool) → is_idle g.phase ≡ b → box_ok g ≡ true → cond b (some 9) none ≡ some n → (step_of g).1 ≡ g
unfolding step_of
step_back g n true i e h = rw e (idle-step g.phase g i)
step_back g n false i e h = cc

untimely-back : (g : ReceiveBox) (c : Call) (n : ℕ) → box_ok g ≡ true → untimely c (is_idle g.phase) ≡ some n → after g c ≡ g
untimely-back g (arrives frame) n e h = cc
untimely-back g takes n e h = cc
untimely-back g (starts w) n e h = start_back g w n (is_idle g.phase) refl e h
untimely-back g steps n e h = step_back g n (is_idle g.phase) refl e h

back_by : (g : ReceiveBox) (c : Call) (n : ℕ) (b : Bool) → box_ok g ≡ b → refusal_due g c ≡ some n → after g c ≡ g
unfolding refusal_due
back_by g c n true e h = untimely-back g c n e (rw e at h)
back_by g c n false e h = broken-back g c e

pub refusal-changes-nothing : (g : ReceiveBox) (c : Call) (n : ℕ) → refusal_of g c ≡ some n → after g c ≡ g
refusal-changes-nothing g c n h = back_by g c n (box_ok g) refl (sym (refused-exactly g c) ∙ h)

-- after any calls from a fresh box a refusal is 8 for a start while a drain runs, or 9 for a step while none runs
due-good : (g : ReceiveBox) (c : Call) → box_ok g ≡ true → refusal_due g c ≡ untimely c (is_idle g.phase)
unfolding refusal_due
due-good g c e = rw e

pub refused-only : (cs : List Call) (c : Call) → refusal_of (after_all fresh_box cs) c ≡ untimely c (is_idle (after_all fresh_box cs).phase)
refused-only cs c = let g = after_all fresh_box cs in refused-exactly g c ∙ due-good g c (rules-for-ever cs)
