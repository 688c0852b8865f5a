-- The queue as a ring: its rules, and what an offer and a take answer, over the number of places.
-- Source: the outline, "The box" and refusal 10.
use Rattle.std.specs.Prelude.{ℕ, ◌+◌, ◌-◌, ◌%◌, Bool, true, false, cond, ◌&&◌, [], ltb, leb, get_or, set, replicate, Option, Some, None, Result, Ok, Err}
use Rattle.laws.specs.Said.{Said, refuses, gives}
use Rattle.refusals.specs.declared.Refusal.{Refusal}
use Rattle.refusals.specs.Table.{refusal_said, answer_said}
use Rattle.box_records.specs.declared.RecordKind.TheVariants.{Frame}
use Rattle.box_records.specs.declared.Record.{Record}
use Rattle.box_records.specs.Blank.{blank}
use Rattle.box_queue.specs.declared.Queue.{Queue}
use Rattle.box_queue.specs.declared.Offering.{Offering}
use Rattle.box_queue.specs.declared.Offering.TheVariants as offering
use Rattle.box_queue.specs.declared.Offered.{Offered}
use Rattle.box_queue.specs.declared.Taken.{Taken}

-- the queue has 32 places
abbrev pub queue_limit : ℕ
queue_limit = 32

-- what stands past the end of the places
abbrev pub nowhere : Record
nowhere = record { kind = Frame; bytes = [] }

abbrev pub empty_queue : ℕ → Queue
empty_queue n = record { places = replicate n blank; head = 0; count = 0 }

-- the head is a place, and no more records than places
unfoldable pub queue_ok : ℕ → Queue → Bool
queue_ok n q = ltb q.head n && leb q.count n

-- with a record stored last
abbrev pub pushed : ℕ → Queue → Record → Queue
pushed n q x = record { places = set q.places ((q.head + q.count) % n) x; head = q.head; count = q.count + 1 }

-- without its oldest, whose place is used again
abbrev pub popped : ℕ → Queue → Queue
popped n q = record { places = q.places; head = (q.head + 1) % n; count = q.count - 1 }

abbrev pub oldest : Queue → Record
oldest q = get_or q.places q.head nowhere

-- an offer: whether the record was stored; a full queue, and only that, loses it
unfoldable pub offer_of : ℕ → Queue → Record → Said Bool × Queue
offer_of n q x =
    cond (queue_ok n q)
    (cond (ltb q.count n) (gives true, pushed n q x) (gives false, q))
    (refuses 10 [], q)

abbrev pub is_stored : Offering → Bool
is_stored offering.Stored = true
is_stored offering.Lost = false

abbrev pub offering_said : Result Offering Refusal → Said Bool
offering_said = answer_said is_stored

abbrev pub offered_said : Offered → Said Bool × Queue
offered_said r = (offering_said r.answer, r.state)

-- a take: whether there was a record, and the oldest, or blank where there is none
abbrev pub TakeSaid : Type 0
TakeSaid = Said Bool × Record

unfoldable pub take_of : ℕ → Queue → TakeSaid × Queue
take_of n q =
    cond (queue_ok n q)
    (cond (ltb 0 q.count) ((gives true, oldest q), popped n q) ((gives false, blank), q))
    ((refuses 10 [], blank), q)

abbrev pub take_said : Result (Option Record) Refusal → TakeSaid
take_said (Ok (Some x)) = (gives true, x)
take_said (Ok None) = (gives false, blank)
take_said (Err f) = (refusal_said f, blank)

abbrev pub taken_said : Taken → TakeSaid × Queue
taken_said r = (take_said r.answer, r.state)
