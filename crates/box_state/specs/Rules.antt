-- The state rules of the box.
-- Source: the outline, "The box", state rules.
use Rattle.std.specs.Prelude.{Bool, true, false, cond, not, ◌&&◌, ltb, replicate}
use Rattle.box_records.specs.declared.RecordError.TheVariants.{Overrun, BusOff}
use Rattle.box_records.specs.declared.RecordKind.TheVariants.{Frame, Error}
use Rattle.box_records.specs.declared.Record.{Record}
use Rattle.box_records.specs.Same.{same_record}
use Rattle.box_queue.specs.Ring.{queue_limit, queue_ok}
use Rattle.box_fifo.specs.declared.Entry.{Entry}
use Rattle.box_fifo.specs.Ring.{front_of, fifo_ok}
use Rattle.box_words.specs.Due.{receive_due, notice_due}
use Rattle.box_state.specs.declared.Phase as P
use Rattle.box_state.specs.declared.Phase.TheVariants as phase
use Rattle.box_state.specs.declared.ReceiveBox.{ReceiveBox}

-- the record that an entry becomes: its copy, or Overrun for a mark
abbrev pub record_of : Entry → Record
record_of e = cond e.mark (record { kind = Error Overrun; bytes = replicate 13 0 }) (record { kind = Frame; bytes = e.bytes })

abbrev pub bus_off : Record
bus_off = record { kind = Error BusOff; bytes = replicate 13 0 }

abbrev pub is_idle : P.Phase → Bool
is_idle phase.Idle = true
is_idle phase.Notice = false
is_idle phase.Look = false
is_idle phase.Miss = false
is_idle phase.Copy = false
is_idle phase.Release = false
is_idle phase.Offer = false
is_idle phase.Finish = false

-- between look and release the FIFO is not empty
unfoldable pub front_ready : ReceiveBox → Bool
front_ready g = receive_due g.words && ltb 0 g.fifo.count

-- at copy the front is whole
unfoldable pub copy_ready : ReceiveBox → Bool
copy_ready g = front_ready g && not (front_of g.fifo).mark

-- at release the held record is the front's copy, or Overrun for a mark
unfoldable pub release_ready : ReceiveBox → Bool
release_ready g = front_ready g && same_record g.held (record_of (front_of g.fifo))

-- the next step is one that the stored words allow
abbrev pub phase_ok : P.Phase → ReceiveBox → Bool
phase_ok phase.Idle g = true
phase_ok phase.Notice g = notice_due g.words
phase_ok phase.Look g = receive_due g.words
phase_ok phase.Miss g = front_ready g
phase_ok phase.Copy g = copy_ready g
phase_ok phase.Release g = release_ready g
phase_ok phase.Offer g = receive_due g.words
phase_ok phase.Finish g = true

unfoldable pub box_ok : ReceiveBox → Bool
box_ok g = fifo_ok g.fifo && (queue_ok queue_limit g.queue && phase_ok g.phase g)
