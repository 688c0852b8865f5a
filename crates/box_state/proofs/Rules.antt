-- A box that keeps the state rules: what that says, part by part. Assumes nothing.
use Prim.Native.Nat.{◌<◌}
use mathlib.Core.Path.{◌≡◌, refl}
use mathlib.Core.Bool.{true, not, ◌&&◌}
use lib.Dec.{ltb}
use lib.ListN.{length}
use borrow.Author.Tests.{ltb-true, lt-ltb}
use Rattle.laws.proofs.Bools.{both_true}
use Rattle.box_records.specs.Same.{same_record}
use Rattle.box_queue.specs.Ring.{queue_limit, queue_ok}
use Rattle.box_queue.proofs.Ring.{InRange, in-range, queue-ok}
use Rattle.box_fifo.specs.Ring.{entry_limit, front_of, fifo_ok}
use Rattle.box_fifo.proofs.Ring.{Valid, ok-valid, valid-ok}
use Rattle.box_words.specs.Due.{receive_due}
use Rattle.box_state.specs.declared.Phase as P
use Rattle.box_state.specs.declared.Phase.TheVariants as phase
use Rattle.box_state.specs.declared.ReceiveBox.{ReceiveBox}
use Rattle.box_state.specs.Rules.{record_of, front_ready, copy_ready, release_ready, phase_ok, box_ok}

-- the rules; and the two lengths, which the types of the arrays say and the lists do not
pub record Good (g : ReceiveBox) : Type 0 where
  pub fifo : Valid g.fifo
  pub queue : InRange queue_limit g.queue
  pub next : phase_ok g.phase g ≡ true
  pub entries : length g.fifo.entries ≡ entry_limit
  pub places : length g.queue.places ≡ queue_limit

pub good-ok : (g : ReceiveBox) → Good g → box_ok g ≡ true
unfolding box_ok
good-ok g k = simp (valid-ok g.fifo k.fifo, queue-ok queue_limit g.queue k.queue, k.next)

pub ok-good : (g : ReceiveBox) → box_ok g ≡ true → length g.fifo.entries ≡ entry_limit → length g.queue.places ≡ queue_limit → Good g
unfolding box_ok
ok-good g e es ps =
    let a = both_true (fifo_ok g.fifo) (queue_ok queue_limit g.queue && phase_ok g.phase g) e in
    let b = both_true (queue_ok queue_limit g.queue) (phase_ok g.phase g) a.1 in
    record { fifo = ok-valid g.fifo a.0; queue = in-range queue_limit g.queue b.0; next = b.1; entries = es; places = ps }

pub ready : (g : ReceiveBox) → front_ready g ≡ true → (receive_due g.words ≡ true) × (0 < g.fifo.count)
unfolding front_ready
ready g e =
    let b = both_true (receive_due g.words) (ltb 0 g.fifo.count) e in
    (b.0, ltb-true 0 g.fifo.count b.1)

pub make-ready : (g : ReceiveBox) → receive_due g.words ≡ true → 0 < g.fifo.count → front_ready g ≡ true
unfolding front_ready
make-ready g r l = simp (r, lt-ltb _ _ l)

pub copy-front : (g : ReceiveBox) → copy_ready g ≡ true → (front_ready g ≡ true) × (not (front_of g.fifo).mark ≡ true)
unfolding copy_ready
copy-front g e = both_true (front_ready g) (not (front_of g.fifo).mark) e

pub make-copy : (g : ReceiveBox) → front_ready g ≡ true → not (front_of g.fifo).mark ≡ true → copy_ready g ≡ true
unfolding copy_ready
make-copy g r m = simp (r, m)

pub release-front : (g : ReceiveBox) → release_ready g ≡ true → (front_ready g ≡ true) × (same_record g.held (record_of (front_of g.fifo)) ≡ true)
unfolding release_ready
release-front g e = both_true (front_ready g) (same_record g.held (record_of (front_of g.fifo))) e

pub make-release : (g : ReceiveBox) → front_ready g ≡ true → same_record g.held (record_of (front_of g.fifo)) ≡ true → release_ready g ≡ true
unfolding release_ready
make-release g r m = simp (r, m)

-- a box with the same words and held record, whose FIFO has the same front where there was one: what the next step asks holds on
module _ (g h : ReceiveBox) (w : h.words ≡ g.words) (r : h.held ≡ g.held)
    (k : 0 < g.fifo.count → (0 < h.fifo.count) × (front_of h.fifo ≡ front_of g.fifo)) where
  ready_on : front_ready g ≡ true → front_ready h ≡ true
  ready_on e = let x = ready g e in make-ready h (rw w x.0) (k x.1).0

  front-on : front_ready g ≡ true → front_of h.fifo ≡ front_of g.fifo
  front-on e = (k (ready g e).1).1

  pub next-on : (p : P.Phase) → phase_ok p g ≡ true → phase_ok p h ≡ true
  next-on phase.Idle e = refl
  next-on phase.Notice e = rw w e
  next-on phase.Look e = rw w e
  next-on phase.Miss e = ready_on e
  next-on phase.Copy e = let x = copy-front g e in make-copy h (ready_on x.0) (rw (front-on x.0) x.1)
  next-on phase.Release e = let x = release-front g e in make-release h (ready_on x.0) (rw (front-on x.0, r) x.1)
  next-on phase.Offer e = rw w e
  next-on phase.Finish e = refl
