-- An answer of the queue is told by what is said of it, so two that meet a contract are equal. Assumes nothing.
use mathlib.Core.Path.{◌≡◌, refl, ap}
use mathlib.Core.Bool.{Bool, true, false}
use Rattle.std.specs.Prelude.{Option, Some, None, Result, Ok, Err}
use Rattle.laws.specs.Said.{Said, refuses, gives}
use Rattle.laws.proofs.Only.{only}
use Rattle.refusals.specs.declared.Refusal.{Refusal}
use Rattle.refusals.proofs.Only.{refusal_at, refusal-at}
use Rattle.box_records.specs.declared.Record.{Record}
use Rattle.box_queue.specs.declared.Queue.{Queue}
use Rattle.box_queue.specs.declared.Offering.{Offering}
use Rattle.box_queue.specs.declared.Offering.TheVariants as offering
use Rattle.box_queue.specs.declared.Offered.{Offered}
use Rattle.box_queue.specs.declared.Taken.{Taken}
use Rattle.box_queue.specs.Ring.{offering_said, offered_said, TakeSaid, take_said, taken_said}

offering_back : Said Bool → Result Offering Refusal
offering_back (gives true) = Ok offering.Stored
offering_back (gives false) = Ok offering.Lost
offering_back (refuses k n) = Err (refusal_at k n)

offering-back : (a : Result Offering Refusal) → offering_back (offering_said a) ≡ a
unfolding offering_back
offering-back (Ok offering.Stored) = refl
offering-back (Ok offering.Lost) = refl
offering-back (Err f) = ap Err (refusal-at f)

offered_back : Said Bool × Queue → Offered
offered_back p = record { answer = offering_back p.0; state = p.1 }

offered-back : (r : Offered) → offered_back (offered_said r) ≡ r
unfolding offered_back
offered-back r = rw (offering-back r.answer)

pub only-offered : (r s : Offered) → offered_said r ≡ offered_said s → r ≡ s
only-offered = only offered_said offered_back offered-back

pub take_read_back : TakeSaid → Result (Option Record) Refusal
take_read_back (gives true, x) = Ok (Some x)
take_read_back (gives false, x) = Ok None
take_read_back (refuses k n, x) = Err (refusal_at k n)

pub take_back : (a : Result (Option Record) Refusal) → take_read_back (take_said a) ≡ a
unfolding take_read_back
take_back (Ok (Some x)) = refl
take_back (Ok None) = refl
take_back (Err f) = ap Err (refusal-at f)

taken_read_back : TakeSaid × Queue → Taken
taken_read_back p = record { answer = take_read_back p.0; state = p.1 }

taken_back : (r : Taken) → taken_read_back (taken_said r) ≡ r
unfolding taken_read_back
taken_back r = rw (take_back r.answer)

pub only-taken : (r s : Taken) → taken_said r ≡ taken_said s → r ≡ s
only-taken = only taken_said taken_read_back taken_back
