-- Each step of a drain, on a box that keeps the rules: what it completes, and the box after it, are the model's. Assumes nothing.
use Prim.Native.Nat.{ℕ, ◌<◌}
use mathlib.Core.Path.{◌≡◌, refl, sym, ap, ◌∙◌}
use mathlib.Core.Bool.{Bool, true, false, not}
use mathlib.Core.List.{[]}
use mathlib.Core.Option.{none, some}
use lib.Dec.{ltb, eqb}
use native.Mathlib.Omega.{arith}
use borrow.Author.Tests.{ltb-true, eqb-true, eqb-false}
use Rattle.laws.specs.Said.{gives}
use Rattle.laws.proofs.Tabulate.{tabulate-none, length-tabulate}
use Rattle.box_records.specs.declared.Record.{Record}
use Rattle.box_queue.specs.Ring.{queue_limit, pushed, offer_of}
use Rattle.box_queue.specs.View.{record_at, view}
use Rattle.box_queue.proofs.Ring.{queue-ok}
use Rattle.box_queue.proofs.View.{pushed-view}
use Rattle.box_fifo.specs.Ring.{entry_at, front_of, entries_of}
use Rattle.box_fifo.proofs.Ring.{released-entries}
use Rattle.box_state.specs.declared.Phase as P
use Rattle.box_state.specs.declared.Phase.TheVariants as phase
use Rattle.box_state.specs.declared.ReceiveBox.{ReceiveBox}
use Rattle.box_state.specs.Rules.{record_of, bus_off, phase_ok}
use Rattle.box_state.specs.Calls.{with_of}
use Rattle.box_state.proofs.Rules.{Good, good-ok, ready, copy-front, release-front}
use Rattle.box_drain.specs.declared.Command.{Command}
use Rattle.box_drain.specs.declared.Command.TheVariants as command
use Rattle.box_drain.specs.Answers.{lost, quietly}
use Rattle.box_drain.specs.Step.{at_phase, holding, offering, notice_step, look_step, miss_step, copy_step, release_step, offer_step, finish_step, by_phase, step_of}
use Rattle.box_model.specs.Calls as Calls
use Rattle.box_model.specs.Lists.{offer}
use Rattle.box_model.specs.Calls.{Event, Box, box, call, step, stepped, to_notice, to_look, to_miss, to_copy, to_release, to_offer, to_finish}
use Rattle.box_theorem.specs.Kit.{can, drain_in, box_of}
use Rattle.box_theorem.specs.Run.{stepping, call_of}
use Rattle.box_theorem.proofs.Calls.{Refines, after_is}

module _ (g : ReceiveBox) (k : Good g) where
  -- what the model makes of a step
  abbrev model : Calls.Phase can → Event can × Box can
  model p = stepped can (entries_of g.fifo) (view queue_limit g.queue) g.words p

  -- LOOK
  look-by : (b : Bool) → eqb g.fifo.count 0 ≡ b → Refines (stepping phase.Look g (look_step g)) (model to_look)
  unfolding look_step
  look-by true e =
      let v : entries_of g.fifo ≡ [] = tabulate-none g.fifo.count (entry_at g.fifo) (omega (arith, eqb-true g.fifo.count 0 e)) in
      record { event = rw (e, v); state = rw (e, v) }
  look-by false e =
      let some-entry : (n : ℕ) → (n ≡ 0 → ⊥) → 0 < n = λ n h. omega (arith, h) in
      let v = released-entries g.fifo (some-entry g.fifo.count (eqb-false g.fifo.count 0 e)) in
      record { event = rw (e, v); state = rw (e, v) }

  -- MISS. The two ways on
  mark-read : (front_of g.fifo).mark ≡ true → miss_step g ≡ quietly command.Nothing (holding g (record_of (front_of g.fifo)))
  unfolding miss_step
  mark-read m = rw m

  whole-read : (front_of g.fifo).mark ≡ false → miss_step g ≡ quietly command.Nothing (at_phase g phase.Copy)
  unfolding miss_step
  whole-read m = rw m

  after-miss : (b : Bool) → (front_of g.fifo).mark ≡ b → (r : Record) → Calls.after_miss can (not (front_of g.fifo).mark) r ≡ Calls.after_miss can (not b) r
  after-miss b m r = rw m

  miss-by : (b : Bool) → (front_of g.fifo).mark ≡ b → 0 < g.fifo.count → Refines (stepping phase.Miss g (miss_step g)) (model to_miss)
  miss-by true m l =
      let v = released-entries g.fifo l in
      let c = mark-read m in
      record { event = rw (c, v); state = rw (c, v, after-miss true m (record_of (front_of g.fifo))) }
  miss-by false m l =
      let v = released-entries g.fifo l in
      let c = whole-read m in
      record { event = rw (c, v); state = rw (c, v, after-miss false m (record_of (front_of g.fifo))) }

  -- COPY
  copy-refines : 0 < g.fifo.count → Refines (stepping phase.Copy g (copy_step g)) (model to_copy)
  unfolding copy_step
  copy-refines l = let v = released-entries g.fifo l in record { event = rw v; state = rw v }

  -- RELEASE
  release-refines : 0 < g.fifo.count → Refines (stepping phase.Release g (release_step g)) (model (to_release g.held))
  unfolding release_step
  release-refines l = let v = released-entries g.fifo l in record { event = rw v; state = rw v }

  -- AN OFFER, stored or lost
  stored-by : ltb g.queue.count queue_limit ≡ true → (x : Record) (c : Command) (p l : P.Phase)
      → offering g x c p l ≡ quietly c (with_of g g.fifo (pushed queue_limit g.queue x) p g.held)
  unfolding offering offer_of
  stored-by e x c p l = simp (queue-ok queue_limit g.queue k.queue, e)

  lost-by : ltb g.queue.count queue_limit ≡ false → (x : Record) (c : Command) (p l : P.Phase)
      → offering g x c p l ≡ ((gives lost, c, x), with_of g g.fifo g.queue l g.held)
  unfolding offering offer_of
  lost-by e x c p l = simp (queue-ok queue_limit g.queue k.queue, e)

  model-stored : ltb g.queue.count queue_limit ≡ true → (x : Record) → offer can (view queue_limit g.queue) x ≡ (none, view queue_limit (pushed queue_limit g.queue x))
  model-stored e x = rw (length-tabulate g.queue.count (record_at queue_limit g.queue), e, pushed-view g.queue x k.places (ltb-true _ _ e))

  model-lost : ltb g.queue.count queue_limit ≡ false → (x : Record) → offer can (view queue_limit g.queue) x ≡ (some x, view queue_limit g.queue)
  model-lost e x = rw (length-tabulate g.queue.count (record_at queue_limit g.queue), e)

  offer-by : (b : Bool) → ltb g.queue.count queue_limit ≡ b → Refines (stepping phase.Offer g (offer_step g)) (model (to_offer g.held))
  unfolding offer_step
  offer-by true e =
      let c = stored-by e g.held in
      let m = model-stored e g.held in
      record { event = rw (c, m); state = rw (c, m) }
  offer-by false e =
      let c = lost-by e g.held in
      let m = model-lost e g.held in
      record { event = rw (c, m); state = rw (c, m) }

  notice-by : (b : Bool) → ltb g.queue.count queue_limit ≡ b → Refines (stepping phase.Notice g (notice_step g)) (model to_notice)
  unfolding notice_step
  notice-by true e =
      let c = stored-by e bus_off in
      let m = model-stored e bus_off in
      record { event = rw (c, m); state = rw (c, m, after_is g.words g.held) }
  notice-by false e =
      let c = lost-by e bus_off in
      let m = model-lost e bus_off in
      record { event = rw (c, m); state = rw (c, m, after_is g.words g.held) }

  -- FINISH
  finish-refines : Refines (stepping phase.Finish g (finish_step g)) (model to_finish)
  unfolding finish_step
  finish-refines = record { event = refl; state = refl }

  -- the step that is next
  onto : (p : P.Phase) → g.phase ≡ p → (x : Event can × ReceiveBox)
      → Refines x (call can (box (entries_of g.fifo) (view queue_limit g.queue) (drain_in p g.words g.held)) step) → Refines x (call can (box_of g) step)
  onto p e x r =
      let c = ap (λ (z : P.Phase). call can (box (entries_of g.fifo) (view queue_limit g.queue) (drain_in z g.words g.held)) step) (sym e) in
      record { event = r.event ∙ ap (λ (y : Event can × Box can). y.0) c; state = r.state ∙ ap (λ (y : Event can × Box can). y.1) c }

  by-phase : (p : P.Phase) → g.phase ≡ p → phase_ok p g ≡ true → Refines (stepping p g (by_phase p g)) (call can (box_of g) step)
  by-phase phase.Idle e n = record { event = rw e; state = rw e }
  by-phase phase.Notice e n = onto phase.Notice e (stepping phase.Notice g (notice_step g)) (notice-by (ltb g.queue.count queue_limit) refl)
  by-phase phase.Look e n = onto phase.Look e (stepping phase.Look g (look_step g)) (look-by (eqb g.fifo.count 0) refl)
  by-phase phase.Miss e n = onto phase.Miss e (stepping phase.Miss g (miss_step g)) (miss-by (front_of g.fifo).mark refl (ready g n).1)
  by-phase phase.Copy e n = onto phase.Copy e (stepping phase.Copy g (copy_step g)) (copy-refines (ready g (copy-front g n).0).1)
  by-phase phase.Release e n = onto phase.Release e (stepping phase.Release g (release_step g)) (release-refines (ready g (release-front g n).0).1)
  by-phase phase.Offer e n = onto phase.Offer e (stepping phase.Offer g (offer_step g)) (offer-by (ltb g.queue.count queue_limit) refl)
  by-phase phase.Finish e n = onto phase.Finish e (stepping phase.Finish g (finish_step g)) finish-refines

  step_is : step_of g ≡ by_phase g.phase g
  unfolding step_of
  step_is = simp (good-ok g k)

pub step-refines : (g : ReceiveBox) → Good g → Refines (call_of g step) (call can (box_of g) step)
step-refines g k = rw (step_is g k) (by-phase g k g.phase refl k.next)
