-- What the queue's test says of its numbers. Assumes nothing.
use Prim.Native.Nat.{ℕ, ◌<◌, ◌≤◌}
use mathlib.Core.Path.{◌≡◌}
use mathlib.Core.Bool.{true}
use borrow.Author.Tests.{ltb-true, leb-true, lt-ltb, le-leb}
use Rattle.laws.proofs.Bools.{both_true}
use Rattle.box_queue.specs.declared.Queue.{Queue}
use Rattle.box_queue.specs.Ring.{queue_ok}

pub record InRange (n : ℕ) (q : Queue) : Type 0 where
  pub head : q.head < n
  pub count : q.count ≤ n

pub in-range : (n : ℕ) (q : Queue) → queue_ok n q ≡ true → InRange n q
unfolding queue_ok
in-range n q e =
    let h = both_true _ _ e in
    record { head = ltb-true _ _ h.0; count = leb-true _ _ h.1 }

pub queue-ok : (n : ℕ) (q : Queue) → InRange n q → queue_ok n q ≡ true
unfolding queue_ok
queue-ok n q r = simp (lt-ltb _ _ r.head, le-leb _ _ r.count)
