-- An answer of the box is told by what is said of it, so two that meet a contract are equal. Assumes nothing.
use mathlib.Core.Path.{◌≡◌, ap}
use Rattle.std.specs.Prelude.{Result, Ok, Err}
use Rattle.laws.specs.Said.{Said, refuses, gives}
use Rattle.laws.proofs.Only.{only}
use Rattle.refusals.specs.declared.Refusal.{Refusal}
use Rattle.refusals.proofs.Only.{refusal_at, refusal-at}
use Rattle.box_queue.specs.Ring.{TakeSaid}
use Rattle.box_queue.proofs.Only.{take_read_back, take_back}
use Rattle.box_fifo.specs.declared.Arrival.{Arrival}
use Rattle.box_fifo.specs.Ring.{Outcome}
use Rattle.box_fifo.proofs.Only.{arrival_back, arrival-back}
use Rattle.box_state.specs.declared.ReceiveBox.{ReceiveBox}
use Rattle.box_state.specs.declared.Arrived.{Arrived}
use Rattle.box_state.specs.declared.Taken.{Taken}
use Rattle.box_state.specs.Calls.{arriving_said, arrived_said, taken_said}

arriving_back : Said Outcome → Result Arrival Refusal
arriving_back (gives o) = Ok (arrival_back o)
arriving_back (refuses k n) = Err (refusal_at k n)

arriving-back : (a : Result Arrival Refusal) → arriving_back (arriving_said a) ≡ a
unfolding arriving_back
arriving-back (Ok a) = ap Ok (arrival-back a)
arriving-back (Err f) = ap Err (refusal-at f)

arrived_back : Said Outcome × ReceiveBox → Arrived
arrived_back p = record { answer = arriving_back p.0; state = p.1 }

arrived-back : (r : Arrived) → arrived_back (arrived_said r) ≡ r
unfolding arrived_back
arrived-back r = rw (arriving-back r.answer)

pub only-arrived : (r s : Arrived) → arrived_said r ≡ arrived_said s → r ≡ s
only-arrived = only arrived_said arrived_back arrived-back

taken_read_back : TakeSaid × ReceiveBox → Taken
taken_read_back p = record { answer = take_read_back p.0; state = p.1 }

taken_back : (r : Taken) → taken_read_back (taken_said r) ≡ r
unfolding taken_read_back
taken_back r = rw (take_back r.answer)

pub only-taken : (r s : Taken) → taken_said r ≡ taken_said s → r ≡ s
only-taken = only taken_said taken_read_back taken_back
