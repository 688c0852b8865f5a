-- The steps of a drain, each on the whole state.
-- Source: the outline, "The box", steps 1 to 4, and refusals 9 and 10.
use Rattle.std.specs.Prelude.{Bool, true, false, cond, [], eqb}
use Rattle.laws.specs.Said.{Said, refuses, gives}
use Rattle.box_records.specs.declared.Record.{Record}
use Rattle.box_records.specs.Blank.{blank}
use Rattle.box_queue.specs.declared.Queue.{Queue}
use Rattle.box_queue.specs.Ring.{queue_limit, offer_of}
use Rattle.box_fifo.specs.Ring.{front_of, released}
use Rattle.box_words.specs.declared.Words.{Words}
use Rattle.box_words.specs.Due.{receive_due, notice_due, finish_of}
use Rattle.box_state.specs.declared.Phase as P
use Rattle.box_state.specs.declared.Phase.TheVariants as phase
use Rattle.box_state.specs.declared.ReceiveBox.{ReceiveBox}
use Rattle.box_state.specs.Rules.{record_of, bus_off, box_ok}
use Rattle.box_state.specs.Calls.{with_of}
use Rattle.box_drain.specs.declared.Command.{Command}
use Rattle.box_drain.specs.declared.Command.TheVariants as command
use Rattle.box_drain.specs.Answers.{lost, finished, StepSaid, quietly}

abbrev pub at_phase : ReceiveBox → P.Phase → ReceiveBox
at_phase g p = with_of g g.fifo g.queue p g.held

abbrev pub holding : ReceiveBox → Record → ReceiveBox
holding g x = with_of g g.fifo g.queue phase.Release x

-- an offer: stored, or lost by a full queue and named
abbrev pub offered : Said Bool → Queue → ReceiveBox → Record → Command → P.Phase → P.Phase → StepSaid × ReceiveBox
offered (gives true) q g x c p l = quietly c (with_of g g.fifo q p g.held)
offered (gives false) q g x c p l = ((gives lost, c, x), with_of g g.fifo q l g.held)
offered (refuses n k) q g x c p l = ((refuses n k, command.Nothing, blank), g)

-- of a record, with a command; the step after it where it is stored, and where it is lost
unfoldable pub offering : ReceiveBox → Record → Command → P.Phase → P.Phase → StepSaid × ReceiveBox
offering g x c p l = offered (offer_of queue_limit g.queue x).0 (offer_of queue_limit g.queue x).1 g x c p l

-- look if receive is set
unfoldable pub after_notice : Words → P.Phase
after_notice w = cond (receive_due w) phase.Look phase.Finish

unfoldable pub first_phase : Words → P.Phase
first_phase w = cond (notice_due w) phase.Notice (after_notice w)

-- abort command, offer BusOff; a lost notice does not end the moves
unfoldable pub notice_step : ReceiveBox → StepSaid × ReceiveBox
notice_step g = offering g bus_off command.Abort (after_notice g.words) (after_notice g.words)

-- empty ends the moves
unfoldable pub look_step : ReceiveBox → StepSaid × ReceiveBox
look_step g = quietly command.Nothing (at_phase g (cond (eqb g.fifo.count 0) phase.Finish phase.Miss))

-- read the front's miss state: a mark prepares Overrun in that read
unfoldable pub miss_step : ReceiveBox → StepSaid × ReceiveBox
miss_step g = quietly command.Nothing (cond (front_of g.fifo).mark (holding g (record_of (front_of g.fifo))) (at_phase g phase.Copy))

unfoldable pub copy_step : ReceiveBox → StepSaid × ReceiveBox
copy_step g = quietly command.Nothing (holding g (record_of (front_of g.fifo)))

unfoldable pub release_step : ReceiveBox → StepSaid × ReceiveBox
release_step g = quietly command.Release (with_of g (released g.fifo) g.queue phase.Offer g.held)

-- after a stored move, look again; a lost move ends the moves
unfoldable pub offer_step : ReceiveBox → StepSaid × ReceiveBox
offer_step g = offering g g.held command.Nothing phase.Look phase.Finish

unfoldable pub finish_step : ReceiveBox → StepSaid × ReceiveBox
finish_step g = ((gives (finished (finish_of g.words)), command.Nothing, blank), at_phase g phase.Idle)

abbrev pub by_phase : P.Phase → ReceiveBox → StepSaid × ReceiveBox
by_phase phase.Idle g = ((refuses 9 [], command.Nothing, blank), g)
by_phase phase.Notice g = notice_step g
by_phase phase.Look g = look_step g
by_phase phase.Miss g = miss_step g
by_phase phase.Copy g = copy_step g
by_phase phase.Release g = release_step g
by_phase phase.Offer g = offer_step g
by_phase phase.Finish g = finish_step g

unfoldable pub step_of : ReceiveBox → StepSaid × ReceiveBox
step_of g = cond (box_ok g) (by_phase g.phase g) ((refuses 10 [], command.Nothing, blank), g)
