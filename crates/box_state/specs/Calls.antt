-- A fresh box, an arrival and a take.
-- Source: the outline, "The box", and refusal 10.
use Rattle.std.specs.Prelude.{ℕ, cond, List, [], Result}
use Rattle.laws.specs.Said.{Said, refuses, gives}
use Rattle.refusals.specs.declared.Refusal.{Refusal}
use Rattle.refusals.specs.Table.{answer_said}
use Rattle.box_records.specs.declared.Record.{Record}
use Rattle.box_records.specs.Blank.{blank}
use Rattle.box_queue.specs.declared.Queue.{Queue}
use Rattle.box_queue.specs.Ring as Q
use Rattle.box_fifo.specs.declared.Fifo.{Fifo}
use Rattle.box_fifo.specs.declared.Arrival.{Arrival}
use Rattle.box_fifo.specs.Ring as F
use Rattle.box_state.specs.declared.Phase as P
use Rattle.box_state.specs.declared.Phase.TheVariants as phase
use Rattle.box_state.specs.declared.ReceiveBox.{ReceiveBox}
use Rattle.box_state.specs.declared.Arrived.{Arrived}
use Rattle.box_state.specs.declared.Taken.{Taken}
use Rattle.box_state.specs.Rules.{box_ok}

-- the box with another FIFO, queue, next step and held record; the words stay
abbrev pub with_of : ReceiveBox → Fifo → Queue → P.Phase → Record → ReceiveBox
with_of g f q p h = record { fifo = f; queue = q; phase = p; held = h; words = g.words }

-- empty FIFO and queue, and no drain
abbrev pub fresh_box : ReceiveBox
fresh_box =
    record {
      fifo = F.empty_fifo;
      queue = Q.empty_queue Q.queue_limit;
      phase = phase.Idle;
      held = blank;
      words = record { interrupt = 0; enable = 0; status = 0 };
    }

-- an arrival changes the FIFO, and answers what became of it
unfoldable pub arrive_of : ReceiveBox → List ℕ → Said F.Outcome × ReceiveBox
arrive_of g frame =
    cond (box_ok g)
    (gives (F.arrive_of g.fifo frame).0, with_of g (F.arrive_of g.fifo frame).1 g.queue g.phase g.held)
    (refuses 10 [], g)

abbrev pub arriving_said : Result Arrival Refusal → Said F.Outcome
arriving_said = answer_said F.arrival_said

abbrev pub arrived_said : Arrived → Said F.Outcome × ReceiveBox
arrived_said r = (arriving_said r.answer, r.state)

-- a take changes the queue, and answers as it does
unfoldable pub take_of : ReceiveBox → Q.TakeSaid × ReceiveBox
take_of g =
    cond (box_ok g)
    ((Q.take_of Q.queue_limit g.queue).0, with_of g g.fifo (Q.take_of Q.queue_limit g.queue).1 g.phase g.held)
    ((refuses 10 [], blank), g)

abbrev pub taken_said : Taken → Q.TakeSaid × ReceiveBox
taken_said r = (Q.take_said r.answer, r.state)
