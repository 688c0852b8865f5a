-- The box as the model's lists: what arrives, what the FIFO and the queue hold, the words of a start, and the step that is next.
-- Source: the outline, "The box".
use Rattle.std.specs.Prelude.{ℕ, not, List}
use Rattle.box_records.specs.declared.Record.{Record}
use Rattle.box_queue.specs.Ring.{queue_limit}
use Rattle.box_queue.specs.View.{view}
use Rattle.box_fifo.specs.declared.Entry.{Entry}
use Rattle.box_fifo.specs.Ring.{weight_of, whole_entry, mark_entry, entries_of}
use Rattle.box_words.specs.declared.Words.{Words}
use Rattle.box_words.specs.Due.{receive_due, notice_due}
use Rattle.box_state.specs.declared.Phase as P
use Rattle.box_state.specs.declared.Phase.TheVariants as phase
use Rattle.box_state.specs.declared.ReceiveBox.{ReceiveBox}
use Rattle.box_state.specs.Rules.{record_of, bus_off}
use Rattle.box_model.specs.Lists.{Kit}
use Rattle.box_model.specs.Calls.{Box, box, Drain, idle, busy, to_notice, to_look, to_miss, to_copy, to_release, to_offer, to_finish}

abbrev pub can : Kit
can =
    record {
      Frame = List ℕ;
      Entry = Entry;
      Record = Record;
      Words = Words;
      whole = whole_entry;
      mark = λ a. mark_entry;
      is_whole = λ e. not e.mark;
      weigh = weight_of;
      copy = record_of;
      bus_off = bus_off;
      due = notice_due;
      receive = receive_due;
      places = queue_limit;
    }

abbrev pub drain_in : P.Phase → Words → Record → Drain can
drain_in phase.Idle w r = idle
drain_in phase.Notice w r = busy w to_notice
drain_in phase.Look w r = busy w to_look
drain_in phase.Miss w r = busy w to_miss
drain_in phase.Copy w r = busy w to_copy
drain_in phase.Release w r = busy w (to_release r)
drain_in phase.Offer w r = busy w (to_offer r)
drain_in phase.Finish w r = busy w to_finish

abbrev pub box_of : ReceiveBox → Box can
box_of g = box (entries_of g.fifo) (view queue_limit g.queue) (drain_in g.phase g.words g.held)
