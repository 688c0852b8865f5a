-- A decision is told by what is said of it, so two that meet a contract are equal. Assumes nothing.
use mathlib.Core.Path.{◌≡◌, refl}
use mathlib.Core.Bool.{Bool}
use Rattle.std.specs.Prelude.{Result, Ok, Err, Option, Some, None}
use Rattle.laws.proofs.Only.{only}
use Rattle.status_decisions.specs.Answers.{Answer, bus_off, transmission_aborted, would_block, pending, overrun, done, Action, nothing, abort, write_frame, read_and_release, command_said, transmit_said, poll_said, receive_said, transmission_said, polling_said, reception_said}
use Rattle.status_decisions.specs.declared.Command.{Command}
use Rattle.status_decisions.specs.declared.Command.TheVariants as command
use Rattle.status_decisions.specs.declared.TransmitError.{TransmitError}
use Rattle.status_decisions.specs.declared.TransmitError.TheVariants as transmit
use Rattle.status_decisions.specs.declared.PollError.{PollError}
use Rattle.status_decisions.specs.declared.PollError.TheVariants as poll
use Rattle.status_decisions.specs.declared.ReceiveError.{ReceiveError}
use Rattle.status_decisions.specs.declared.ReceiveError.TheVariants as receive
use Rattle.status_decisions.specs.declared.Decision.{Decision}
use Rattle.status_decisions.specs.declared.Polling.{Polling}

command_back : Action → Command
command_back nothing = command.Nothing
command_back abort = command.Abort
command_back write_frame = command.WriteFrame
command_back read_and_release = command.ReadAndRelease

command-back : (c : Command) → command_back (command_said c) ≡ c
unfolding command_back
command-back command.Nothing = refl
command-back command.Abort = refl
command-back command.WriteFrame = refl
command-back command.ReadAndRelease = refl

-- ---- transmit
transmit_back : Answer → Result (Unit {0}) TransmitError
transmit_back bus_off = Err transmit.BusOff
transmit_back transmission_aborted = Err transmit.TransmissionAborted
transmit_back would_block = Err transmit.WouldBlock
transmit_back pending = Err transmit.WouldBlock
transmit_back overrun = Err transmit.WouldBlock
transmit_back done = Ok tt

transmit-back : (a : Result (Unit {0}) TransmitError) → transmit_back (transmit_said a) ≡ a
unfolding transmit_back
transmit-back (Ok _) = refl
transmit-back (Err transmit.BusOff) = refl
transmit-back (Err transmit.TransmissionAborted) = refl
transmit-back (Err transmit.WouldBlock) = refl

transmission_back : Answer × Action → Decision TransmitError
transmission_back p = record { answer = transmit_back p.0; command = command_back p.1 }

transmission-back : (r : Decision TransmitError) → transmission_back (transmission_said r) ≡ r
unfolding transmission_back
transmission-back r = rw (transmit-back r.answer, command-back r.command)

pub only-transmission : (r s : Decision TransmitError) → transmission_said r ≡ transmission_said s → r ≡ s
only-transmission = only transmission_said transmission_back transmission-back

-- ---- poll
poll_back : Answer → Option (Result (Unit {0}) PollError)
poll_back bus_off = Some (Err poll.BusOff)
poll_back transmission_aborted = Some (Err poll.TransmissionAborted)
poll_back would_block = None
poll_back pending = None
poll_back overrun = None
poll_back done = Some (Ok tt)

poll-back : (a : Option (Result (Unit {0}) PollError)) → poll_back (poll_said a) ≡ a
unfolding poll_back
poll-back None = refl
poll-back (Some (Ok _)) = refl
poll-back (Some (Err poll.BusOff)) = refl
poll-back (Some (Err poll.TransmissionAborted)) = refl

polling_back : Answer × Action × Bool → Polling
polling_back p = record { answer = poll_back p.0; command = command_back p.1; in_flight = p.2 }

polling-back : (r : Polling) → polling_back (polling_said r) ≡ r
unfolding polling_back
polling-back r = rw (poll-back r.answer, command-back r.command)

pub only-polling : (r s : Polling) → polling_said r ≡ polling_said s → r ≡ s
only-polling = only polling_said polling_back polling-back

-- ---- receive
receive_back : Answer → Result (Unit {0}) ReceiveError
receive_back bus_off = Err receive.BusOff
receive_back transmission_aborted = Err receive.WouldBlock
receive_back would_block = Err receive.WouldBlock
receive_back pending = Err receive.WouldBlock
receive_back overrun = Err receive.Overrun
receive_back done = Ok tt

receive-back : (a : Result (Unit {0}) ReceiveError) → receive_back (receive_said a) ≡ a
unfolding receive_back
receive-back (Ok _) = refl
receive-back (Err receive.BusOff) = refl
receive-back (Err receive.WouldBlock) = refl
receive-back (Err receive.Overrun) = refl

reception_back : Answer × Action → Decision ReceiveError
reception_back p = record { answer = receive_back p.0; command = command_back p.1 }

reception-back : (r : Decision ReceiveError) → reception_back (reception_said r) ≡ r
unfolding reception_back
reception-back r = rw (receive-back r.answer, command-back r.command)

pub only-reception : (r s : Decision ReceiveError) → reception_said r ≡ reception_said s → r ≡ s
only-reception = only reception_said reception_back reception-back
