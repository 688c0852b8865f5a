-- The answers and the commands by the outline's words, and each enum's case as its word.
-- Source: the outline, "Decisions".
use Rattle.std.specs.Prelude.{Bool, Result, Ok, Err, Option, Some, None}
use Rattle.status_decisions.specs.declared.Command.{Command}
use Rattle.status_decisions.specs.declared.Command.TheVariants as command
use Rattle.status_decisions.specs.declared.TransmitError.{TransmitError}
use Rattle.status_decisions.specs.declared.TransmitError.TheVariants as transmit
use Rattle.status_decisions.specs.declared.PollError.{PollError}
use Rattle.status_decisions.specs.declared.PollError.TheVariants as poll
use Rattle.status_decisions.specs.declared.ReceiveError.{ReceiveError}
use Rattle.status_decisions.specs.declared.ReceiveError.TheVariants as receive
use Rattle.status_decisions.specs.declared.Decision.{Decision}
use Rattle.status_decisions.specs.declared.Polling.{Polling}

-- done: the frame is written, was sent, or is read, as the call has it
pub data Answer : Type 0 where
  bus_off : Answer
  transmission_aborted : Answer
  would_block : Answer
  pending : Answer
  overrun : Answer
  done : Answer

pub data Action : Type 0 where
  nothing : Action
  abort : Action
  write_frame : Action
  read_and_release : Action

abbrev pub command_said : Command → Action
command_said command.Nothing = nothing
command_said command.Abort = abort
command_said command.WriteFrame = write_frame
command_said command.ReadAndRelease = read_and_release

abbrev pub transmit_said : Result (Unit {0}) TransmitError → Answer
transmit_said (Ok _) = done
transmit_said (Err transmit.BusOff) = bus_off
transmit_said (Err transmit.TransmissionAborted) = transmission_aborted
transmit_said (Err transmit.WouldBlock) = would_block

-- a future without an answer is pending
abbrev pub poll_said : Option (Result (Unit {0}) PollError) → Answer
poll_said None = pending
poll_said (Some (Ok _)) = done
poll_said (Some (Err poll.BusOff)) = bus_off
poll_said (Some (Err poll.TransmissionAborted)) = transmission_aborted

abbrev pub receive_said : Result (Unit {0}) ReceiveError → Answer
receive_said (Ok _) = done
receive_said (Err receive.BusOff) = bus_off
receive_said (Err receive.WouldBlock) = would_block
receive_said (Err receive.Overrun) = overrun

abbrev pub transmission_said : Decision TransmitError → Answer × Action
transmission_said r = (transmit_said r.answer, command_said r.command)

abbrev pub polling_said : Polling → Answer × Action × Bool
polling_said r = (poll_said r.answer, command_said r.command, r.in_flight)

abbrev pub reception_said : Decision ReceiveError → Answer × Action
reception_said r = (receive_said r.answer, command_said r.command)
