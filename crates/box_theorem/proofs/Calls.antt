-- An arrival, a take and a start, on a box that keeps the rules: the event and the box after it are the model's. Assumes nothing.
use Prim.Native.Nat.{ℕ, zero, suc, ◌+◌}
use mathlib.Core.Path.{◌≡◌, refl, ap, ◌∙◌}
use mathlib.Core.Bool.{Bool, true, false, cond}
use mathlib.Core.List.{List, [], ◌∷◌, ◌++◌}
use lib.Dec.{ltb, leb}
use lib.ListN.{length}
use native.Mathlib.Omega.{arith}
use borrow.Author.Tests.{ltb-true, ltb-false, leb-false, lt-leb, le-leb}
use Rattle.laws.specs.Said.{refuses, gives}
use Rattle.laws.specs.Tabulate.{tabulate}
use Rattle.laws.proofs.Tabulate.{tabulate-snoc, tabulate-none, length-tabulate}
use Rattle.box_records.specs.declared.Record.{Record}
use Rattle.box_records.specs.Blank.{blank}
use Rattle.box_queue.specs.Ring as Q
use Rattle.box_queue.specs.Ring.{queue_limit}
use Rattle.box_queue.specs.View.{record_at, view}
use Rattle.box_queue.proofs.Ring.{queue-ok}
use Rattle.box_queue.proofs.View.{popped-view}
use Rattle.box_fifo.specs.declared.Entry.{Entry}
use Rattle.box_fifo.specs.declared.Fifo.{Fifo}
use Rattle.box_fifo.specs.Ring as F
use Rattle.box_fifo.specs.Ring.{entry_limit, weight_limit, weight_of, whole_entry, mark_entry, entry_at, entries_of, sum_to, pushed}
use Rattle.box_fifo.proofs.Ring.{Valid, pushed-entries}
use Rattle.box_words.specs.declared.Words.{Words}
use Rattle.box_words.specs.Due.{receive_due, notice_due}
use Rattle.box_state.specs.declared.Phase as P
use Rattle.box_state.specs.declared.Phase.TheVariants as phase
use Rattle.box_state.specs.declared.ReceiveBox.{ReceiveBox}
use Rattle.box_state.specs.Rules.{is_idle}
use Rattle.box_state.specs.Calls.{with_of, arrive_of, take_of}
use Rattle.box_state.proofs.Rules.{Good, good-ok}
use Rattle.box_drain.specs.Step.{first_phase, after_notice}
use Rattle.box_drain.specs.Start.{begun, start_of}
use Rattle.box_model.specs.Calls as Calls
use Rattle.box_model.specs.Lists as Lists
use Rattle.box_model.specs.Lists.{enter}
use Rattle.box_model.specs.Calls.{Event, Box, Drain, busy, call, arrives, takes, start, first, moving}
use Rattle.box_theorem.specs.Kit.{can, drain_in, box_of}
use Rattle.box_theorem.specs.Run.{call_of}

-- what a call on the box did, and the box after it, are what a call of the model did, and its box after that
pub record Refines (x : Event can × ReceiveBox) (y : Event can × Box can) : Type 0 where
  pub event : x.0 ≡ y.0
  pub state : box_of x.1 ≡ y.1

-- AN ARRIVAL. The weight of the entries is the sum of the ring's
weight-append : (xs ys : List Entry) → Lists.weight can (xs ++ ys) ≡ Lists.weight can xs + Lists.weight can ys
weight-append [] ys = omega arith
weight-append (x ∷ xs) ys = omega (arith, weight-append xs ys)

weight-entries : (f : Fifo) (n : ℕ) → Lists.weight can (tabulate n (entry_at f)) ≡ sum_to f n
unfolding sum_to
weight-entries f zero = refl
weight-entries f (suc n) =
    let a = weight-append (tabulate n (entry_at f)) (entry_at f n ∷ []) in
    let b = weight-entries f n in
    ap (Lists.weight can) (tabulate-snoc n (entry_at f)) ∙ (omega (arith, a, b))

record Entered (f : Fifo) (frame : List ℕ) : Type 0 where
  outcome : F.Outcome
  next : Fifo
  code : F.arrive_of f frame ≡ (outcome, next)
  model : enter can (entries_of f) frame ≡ (outcome, entries_of next)

module _ (f : Fifo) (frame : List ℕ) (v : Valid f) (s : length f.entries ≡ entry_limit) where
  sum_is : Lists.weight can (entries_of f) ≡ f.weight
  sum_is = weight-entries f f.count ∙ v.sum

  count-is : length (entries_of f) ≡ f.count
  count-is = length-tabulate f.count (entry_at f)

  entered_by : (b c : Bool) → leb entry_limit f.count ≡ b → ltb weight_limit (f.weight + weight_of (whole_entry frame)) ≡ c → Entered f frame
  unfolding F.arrive_of
  entered_by true c h k = record { outcome = F.not_recorded; next = f; code = simp h; model = rw (count-is, h) }
  entered_by false true h k =
      let l = leb-false entry_limit f.count h in
      let heavy : leb (f.weight + weight_of (whole_entry frame)) weight_limit ≡ false = lt-leb (f.weight + weight_of (whole_entry frame)) weight_limit (ltb-true weight_limit (f.weight + weight_of (whole_entry frame)) k) in
      record {
        outcome = F.marked;
        next = pushed f mark_entry;
        code = simp (h, k);
        model = rw (count-is, h, sum_is, heavy, pushed-entries f mark_entry s l);
      }
  entered_by false false h k =
      let l = leb-false entry_limit f.count h in
      let light : leb (f.weight + weight_of (whole_entry frame)) weight_limit ≡ true = le-leb (f.weight + weight_of (whole_entry frame)) weight_limit (ltb-false weight_limit (f.weight + weight_of (whole_entry frame)) k) in
      record {
        outcome = F.stored;
        next = pushed f (whole_entry frame);
        code = simp (h, k);
        model = rw (count-is, h, sum_is, light, pushed-entries f (whole_entry frame) s l);
      }

  entered-as : Entered f frame
  entered-as = entered_by (leb entry_limit f.count) (ltb weight_limit (f.weight + weight_of (whole_entry frame))) refl refl

pub arrive-refines : (g : ReceiveBox) (frame : List ℕ) → Good g → Refines (call_of g (arrives frame)) (call can (box_of g) (arrives frame))
unfolding arrive_of
arrive-refines g frame k =
    let e = entered-as g.fifo frame k.fifo k.entries in
    let c : arrive_of g frame ≡ (gives e.outcome, with_of g e.next g.queue g.phase g.held) = simp (good-ok g k, e.code) in
    record { event = rw (c, e.model); state = rw (c, e.model) }

-- A TAKE
module _ (g : ReceiveBox) (k : Good g) where
  took_by : (b : Bool) → ltb 0 g.queue.count ≡ b → Refines (call_of g takes) (call can (box_of g) takes)
  unfolding take_of Q.take_of
  took_by true e =
      let q = g.queue in
      let c : take_of g ≡ ((gives true, Q.oldest q), with_of g g.fifo (Q.popped queue_limit q) g.phase g.held) = simp (good-ok g k, queue-ok queue_limit q k.queue, e) in
      let v = popped-view q k.queue.head (ltb-true 0 q.count e) in
      record { event = rw (c, v); state = rw (c, v) }
  took_by false e =
      let q = g.queue in
      let c : take_of g ≡ ((gives false, blank), g) = simp (good-ok g k, queue-ok queue_limit q k.queue, e) in
      let v : view queue_limit q ≡ [] = tabulate-none q.count (record_at queue_limit q) (ltb-false 0 q.count e) in
      record { event = rw (c, v); state = rw (c, v) }

pub take-refines : (g : ReceiveBox) → Good g → Refines (call_of g takes) (call can (box_of g) takes)
take-refines g k = took_by g k (ltb 0 g.queue.count) refl

-- A START
moving-by : (b : Bool) (w : Words) (r : Record) → drain_in (cond b phase.Look phase.Finish) w r ≡ busy w (moving can b)
moving-by true w r = refl
moving-by false w r = refl

first_by : (a b : Bool) (w : Words) (r : Record) → drain_in (cond a phase.Notice (cond b phase.Look phase.Finish)) w r ≡ busy w (first can a b)
first_by true b w r = refl
first_by false b w r = moving-by b w r

pub after_is : (w : Words) (r : Record) → drain_in (after_notice w) w r ≡ busy w (moving can (receive_due w))
unfolding after_notice
after_is w r = moving-by (receive_due w) w r

first-is : (w : Words) (r : Record) → drain_in (first_phase w) w r ≡ busy w (first can (notice_due w) (receive_due w))
unfolding first_phase after_notice
first-is w r = first_by (notice_due w) (receive_due w) w r

-- a step other than Idle is a running drain
record Runs (d : Drain can) : Type 0 where
  words : Words
  at-step : Calls.Phase can
  is : d ≡ busy words at-step

runs : (p : P.Phase) (w : Words) (r : Record) → is_idle p ≡ false → Runs (drain_in p w r)
runs phase.Idle w r e = let z : ◌≡◌ {A = ℕ} 0 1 = cc in absurd (omega arith)
runs phase.Notice w r e = record { words = w; at-step = Calls.to_notice; is = refl }
runs phase.Look w r e = record { words = w; at-step = Calls.to_look; is = refl }
runs phase.Miss w r e = record { words = w; at-step = Calls.to_miss; is = refl }
runs phase.Copy w r e = record { words = w; at-step = Calls.to_copy; is = refl }
runs phase.Release w r e = record { words = w; at-step = Calls.to_release r; is = refl }
runs phase.Offer w r e = record { words = w; at-step = Calls.to_offer r; is = refl }
runs phase.Finish w r e = record { words = w; at-step = Calls.to_finish; is = refl }

idle-is : (p : P.Phase) → is_idle p ≡ true → p ≡ phase.Idle
idle-is phase.Idle e = refl
idle-is phase.Notice e = cc
idle-is phase.Look e = cc
idle-is phase.Miss e = cc
idle-is phase.Copy e = cc
idle-is phase.Release e = cc
idle-is phase.Offer e = cc
idle-is phase.Finish e = cc

module _ (g : ReceiveBox) (w : Words) (k : Good g) where
  started-by : (b : Bool) → is_idle g.phase ≡ b → Refines (call_of g (start w)) (call can (box_of g) (start w))
  unfolding start_of
  started-by true e =
      let c : start_of g w ≡ (gives tt, begun g w) = simp (good-ok g k, e) in
      let i = idle-is g.phase e in
      record { event = rw (c, i); state = rw (c, i, first-is w g.held) }
  started-by false e =
      let c : start_of g w ≡ (refuses 8 [], g) = simp (good-ok g k, e) in
      let d = runs g.phase g.words g.held e in
      record { event = rw (c, d.is); state = rw (c, d.is) }

pub start-refines : (g : ReceiveBox) (w : Words) → Good g → Refines (call_of g (start w)) (call can (box_of g) (start w))
start-refines g w k = started-by g w k (is_idle g.phase) refl
