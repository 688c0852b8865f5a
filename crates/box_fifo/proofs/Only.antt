-- An answer of an arrival is told by what is said of it, so two that meet the contract are equal. Assumes nothing.
use mathlib.Core.Path.{◌≡◌, refl}
use Rattle.laws.proofs.Only.{only}
use Rattle.box_fifo.specs.declared.Fifo.{Fifo}
use Rattle.box_fifo.specs.declared.Arrival.{Arrival}
use Rattle.box_fifo.specs.declared.Arrival.TheVariants as arrival
use Rattle.box_fifo.specs.declared.Arrived.{Arrived}
use Rattle.box_fifo.specs.Ring.{Outcome, not_recorded, marked, stored, arrival_said, arrived_said}

pub arrival_back : Outcome → Arrival
arrival_back stored = arrival.Whole
arrival_back marked = arrival.Mark
arrival_back not_recorded = arrival.NotRecorded

pub arrival-back : (a : Arrival) → arrival_back (arrival_said a) ≡ a
unfolding arrival_back
arrival-back arrival.Whole = refl
arrival-back arrival.Mark = refl
arrival-back arrival.NotRecorded = refl

arrived_back : Outcome × Fifo → Arrived
arrived_back p = record { answer = arrival_back p.0; state = p.1 }

arrived-back : (r : Arrived) → arrived_back (arrived_said r) ≡ r
unfolding arrived_back
arrived-back r = rw (arrival-back r.answer)

pub only-arrived : (r s : Arrived) → arrived_said r ≡ arrived_said s → r ≡ s
only-arrived = only arrived_said arrived_back arrived-back
