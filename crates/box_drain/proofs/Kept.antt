-- Every call on a box that keeps the rules leaves one that does: so a box that came from a fresh one never breaks them. Assumes nothing.
use Prim.Native.Nat.{ℕ, ◌+◌, ◌<◌, ◌%◌}
use mathlib.Core.Path.{◌≡◌, refl, ◌∙◌}
use mathlib.Core.Bool.{Bool, true, false, cond}
use mathlib.Core.List.{List, [], ◌∷◌}
use lib.Dec.{ltb, eqb}
use lib.ListN.{length, length-set}
use native.Mathlib.Omega.{arith}
use borrow.Author.Tests.{ltb-true, eqb-false}
use Rattle.box_records.specs.declared.Record.{Record}
use Rattle.box_records.proofs.Same.{same_self}
use Rattle.box_queue.specs.Ring as Q
use Rattle.box_queue.specs.Ring.{queue_limit}
use Rattle.box_queue.proofs.Ring.{queue-ok}
use Rattle.box_fifo.specs.Ring as F
use Rattle.box_fifo.specs.Ring.{entry_limit, front_of, sum_to}
use Rattle.box_fifo.proofs.Ring.{arrive-enters, release-valid, released-long}
use Rattle.box_words.specs.declared.Words.{Words}
use Rattle.box_words.specs.Due.{receive_due, notice_due}
use Rattle.box_state.specs.declared.Phase as P
use Rattle.box_state.specs.declared.Phase.TheVariants as phase
use Rattle.box_state.specs.declared.ReceiveBox.{ReceiveBox}
use Rattle.box_state.specs.Rules.{record_of, bus_off, is_idle, phase_ok, box_ok}
use Rattle.box_state.specs.Calls.{with_of, fresh_box, arrive_of, take_of}
use Rattle.box_state.proofs.Rules.{Good, good-ok, ok-good, ready, make-ready, copy-front, make-copy, release-front, make-release, next-on}
use Rattle.box_drain.specs.declared.Command.{Command}
use Rattle.box_drain.specs.Step.{at_phase, holding, offering, after_notice, first_phase, notice_step, look_step, miss_step, copy_step, release_step, offer_step, finish_step, by_phase, step_of}
use Rattle.box_drain.specs.Start.{begun, start_of}
use Rattle.box_drain.specs.Run.{Call, arrives, takes, starts, steps, after, after_all}

-- an arrival: its FIFO keeps the rules, and its front where there was one
arrive-kept : (g : ReceiveBox) (frame : List ℕ) → Good g → Good (arrive_of g frame).1
unfolding arrive_of
arrive-kept g frame k =
    let e = arrive-enters g.fifo frame k.fifo k.entries in
    let h = with_of g (F.arrive_of g.fifo frame).1 g.queue g.phase g.held in
    rw (good-ok g k)
    (record { fifo = e.rules; queue = k.queue; next = next-on g h refl refl e.front g.phase k.next; entries = e.entries; places = k.places })

-- a take
module _ (g : ReceiveBox) (k : Good g) where
  taken-by : (b : Bool) → ltb 0 g.queue.count ≡ b → Good (take_of g).1
  unfolding take_of Q.take_of
  taken-by true e =
      let l = ltb-true 0 g.queue.count e in
      let h = with_of g g.fifo (Q.popped queue_limit g.queue) g.phase g.held in
      rw (good-ok g k, queue-ok queue_limit g.queue k.queue, e)
      (record {
        fifo = k.fifo;
        queue = record { head = omega arith; count = omega (arith, k.queue) };
        next = next-on g h refl refl (λ z. (z, refl)) g.phase k.next;
        entries = k.entries;
        places = k.places;
      })
  taken-by false e = rw (good-ok g k, queue-ok queue_limit g.queue k.queue, e) k

-- a start: the first step is one that its words allow
after-by : (b : Bool) (h : ReceiveBox) → receive_due h.words ≡ b → phase_ok (cond b phase.Look phase.Finish) h ≡ true
after-by true h e = e
after-by false h e = refl

first_by : (a b : Bool) (h : ReceiveBox) → notice_due h.words ≡ a → receive_due h.words ≡ b → phase_ok (cond a phase.Notice (cond b phase.Look phase.Finish)) h ≡ true
first_by true b h e r = e
first_by false b h e r = after-by b h r

after_next : (h : ReceiveBox) → phase_ok (after_notice h.words) h ≡ true
unfolding after_notice
after_next h = after-by (receive_due h.words) h refl

first_next : (h : ReceiveBox) → phase_ok (first_phase h.words) h ≡ true
unfolding first_phase after_notice
first_next h = first_by (notice_due h.words) (receive_due h.words) h refl refl

module _ (g : ReceiveBox) (w : Words) (k : Good g) where
  started-by : (b : Bool) → is_idle g.phase ≡ b → Good (start_of g w).1
  unfolding start_of
  started-by true e =
      rw (good-ok g k, e) (record { fifo = k.fifo; queue = k.queue; next = first_next (begun g w); entries = k.entries; places = k.places })
  started-by false e = rw (good-ok g k, e) k

-- a step
module _ (g : ReceiveBox) (k : Good g) where
  still : (p : P.Phase) (x : Record) → phase_ok p (with_of g g.fifo g.queue p x) ≡ true → Good (with_of g g.fifo g.queue p x)
  still p x e = record { fifo = k.fifo; queue = k.queue; next = e; entries = k.entries; places = k.places }

  some-count : (n : ℕ) → (n ≡ 0 → ⊥) → 0 < n
  some-count n h = omega (arith, h)

  look-by : (b : Bool) → eqb g.fifo.count 0 ≡ b → receive_due g.words ≡ true → Good (look_step g).1
  unfolding look_step
  look-by true e r = rw e (still phase.Finish g.held refl)
  look-by false e r = rw e (still phase.Miss g.held (make-ready (at_phase g phase.Miss) r (some-count g.fifo.count (eqb-false g.fifo.count 0 e))))

  held-front : receive_due g.words ≡ true → 0 < g.fifo.count → Good (holding g (record_of (front_of g.fifo)))
  held-front r l =
      let x = record_of (front_of g.fifo) in
      let h = holding g x in
      still phase.Release x (make-release h (make-ready h r l) (same_self x))

  mark-read : (front_of g.fifo).mark ≡ true → (miss_step g).1 ≡ holding g (record_of (front_of g.fifo))
  unfolding miss_step
  mark-read m = rw m

  miss-by : (b : Bool) → (front_of g.fifo).mark ≡ b → receive_due g.words ≡ true → 0 < g.fifo.count → Good (miss_step g).1
  unfolding miss_step
  miss-by true m r l = rw (mark-read m) (held-front r l)
  miss-by false m r l =
      let h = at_phase g phase.Copy in
      rw m (still phase.Copy g.held (make-copy h (make-ready h r l) (rw m refl)))

  release-kept : receive_due g.words ≡ true → 0 < g.fifo.count → Good (release_step g).1
  unfolding release_step
  release-kept r l =
      record {
        fifo = release-valid g.fifo k.fifo l;
        queue = k.queue;
        next = r;
        entries = released-long g.fifo ∙ k.entries;
        places = k.places;
      }

  -- an offer, stored or lost
  offered-by : (b : Bool) → ltb g.queue.count queue_limit ≡ b → (x : Record) (c : Command) (p l : P.Phase)
      → ((q : _) → phase_ok p (with_of g g.fifo q p g.held) ≡ true) → phase_ok l (at_phase g l) ≡ true → Good (offering g x c p l).1
  unfolding offering Q.offer_of
  offered-by true e x c p l hp hl =
      let n = ltb-true g.queue.count queue_limit e in
      rw (queue-ok queue_limit g.queue k.queue, e)
      (record {
        fifo = k.fifo;
        queue = record { head = k.queue.head; count = omega arith };
        next = hp (Q.pushed queue_limit g.queue x);
        entries = k.entries;
        places = length-set g.queue.places ((g.queue.head + g.queue.count) % queue_limit) x ∙ k.places;
      })
  offered-by false e x c p l hp hl = rw (queue-ok queue_limit g.queue k.queue, e) (still l g.held hl)

  offer-kept : receive_due g.words ≡ true → Good (offer_step g).1
  unfolding offer_step
  offer-kept r = offered-by (ltb g.queue.count queue_limit) refl g.held _ phase.Look phase.Finish (λ q. r) refl

  notice-kept : Good (notice_step g).1
  unfolding notice_step
  notice-kept =
      let p = after_notice g.words in
      offered-by (ltb g.queue.count queue_limit) refl bus_off _ p p (λ q. after_next (with_of g g.fifo q p g.held)) (after_next (at_phase g p))

  copy-kept : receive_due g.words ≡ true → 0 < g.fifo.count → Good (copy_step g).1
  unfolding copy_step
  copy-kept r l = held-front r l

  finish-kept : Good (finish_step g).1
  unfolding finish_step
  finish-kept = still phase.Idle g.held refl

  by-phase-kept : (p : P.Phase) → phase_ok p g ≡ true → Good (by_phase p g).1
  by-phase-kept phase.Idle n = k
  by-phase-kept phase.Notice n = notice-kept
  by-phase-kept phase.Look n = look-by (eqb g.fifo.count 0) refl n
  by-phase-kept phase.Miss n = let x = ready g n in miss-by (front_of g.fifo).mark refl x.0 x.1
  by-phase-kept phase.Copy n = let x = ready g (copy-front g n).0 in copy-kept x.0 x.1
  by-phase-kept phase.Release n = let x = ready g (release-front g n).0 in release-kept x.0 x.1
  by-phase-kept phase.Offer n = offer-kept n
  by-phase-kept phase.Finish n = finish-kept

  step_kept : Good (step_of g).1
  unfolding step_of
  step_kept = rw (good-ok g k) (by-phase-kept g.phase k.next)

-- ONE CALL
pub good-kept : (g : ReceiveBox) (c : Call) → Good g → Good (after g c)
good-kept g (arrives frame) k = arrive-kept g frame k
good-kept g takes k = taken-by g k (ltb 0 g.queue.count) refl
good-kept g (starts w) k = started-by g w k (is_idle g.phase) refl
good-kept g steps k = step_kept g k

pub rules-kept : (g : ReceiveBox) (c : Call) → length g.fifo.entries ≡ entry_limit → length g.queue.places ≡ queue_limit → box_ok g ≡ true → box_ok (after g c) ≡ true
rules-kept g c es ps e = good-ok (after g c) (good-kept g c (ok-good g e es ps))

-- A SEQUENCE, and one from a fresh box
pub good-from : (cs : List Call) (g : ReceiveBox) → Good g → Good (after_all g cs)
good-from [] g k = k
good-from (c ∷ cs) g k = good-from cs (after g c) (good-kept g c k)

pub fresh-good : Good fresh_box
unfolding sum_to
fresh-good =
    record {
      fifo = record { head = omega arith; count = omega arith; weight = omega arith; sum = refl };
      queue = record { head = omega arith; count = omega arith };
      next = refl;
      entries = refl;
      places = refl;
    }

pub rules-for-ever : (cs : List Call) → box_ok (after_all fresh_box cs) ≡ true
rules-for-ever cs = good-ok (after_all fresh_box cs) (good-from cs fresh_box fresh-good)
