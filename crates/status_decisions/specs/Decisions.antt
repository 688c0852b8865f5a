-- The three decisions: what is answered, and what is done.
-- Source: the outline, "Decisions"; the Rust's blocking transmit and receive, and its transmit poll.
use Rattle.std.specs.Prelude.{ℕ, Bool, true, cond}
use Rattle.status_bits.specs.Status.{receive_ready, transmit_free, in_bus_off, missed}
use Rattle.status_decisions.specs.Answers.{Answer, bus_off, transmission_aborted, would_block, pending, overrun, done, Action, nothing, abort, write_frame, read_and_release}

-- where the transmit buffer is not free: the pending frame is given up, or waited for
abbrev pub not_free : Bool → Answer → Answer × Action
not_free error_passive waiting = cond error_passive (transmission_aborted, abort) (waiting, nothing)

abbrev pub transmit_of : ℕ → Bool → Answer × Action
transmit_of status error_passive =
    cond (in_bus_off status) (bus_off, nothing)
    (cond (transmit_free status) (done, write_frame)
    (not_free error_passive would_block))

-- with in flight, before the poll and after it
abbrev pub poll_of : ℕ → Bool → Bool → Answer × Action × Bool
poll_of status error_passive in_flight =
    cond (in_bus_off status) (bus_off, nothing, in_flight)
    (cond (transmit_free status) (cond in_flight (done, nothing, in_flight) (pending, write_frame, true))
    ((not_free error_passive pending).0, (not_free error_passive pending).1, in_flight))

abbrev pub receive_of : ℕ → Answer × Action
receive_of status =
    cond (in_bus_off status) (bus_off, nothing)
    (cond (receive_ready status) (cond (missed status) (overrun, nothing) (done, read_and_release))
    (would_block, nothing))
