-- A decision as one number: the answer, 256 times the command, and 65,536 more where a frame is in flight.
-- Source: docs/ABI.md.
use Rattle.std.specs.Prelude.{ℕ, ◌+◌, ◌*◌, Bool}
use Rattle.laws.specs.Row.{bit}
use Rattle.status_decisions.specs.Answers.{Answer, bus_off, transmission_aborted, would_block, pending, overrun, done, Action, nothing, abort, write_frame, read_and_release}

abbrev pub answer_number : Answer → ℕ
answer_number done = 0
answer_number would_block = 1
answer_number pending = 2
answer_number bus_off = 3
answer_number transmission_aborted = 4
answer_number overrun = 5

abbrev pub action_number : Action → ℕ
action_number nothing = 0
action_number abort = 1
action_number write_frame = 2
action_number read_and_release = 3

abbrev pub decided : Answer × Action → ℕ
decided d = answer_number d.0 + action_number d.1 * 256

abbrev pub polled : Answer × Action × Bool → ℕ
polled d = decided (d.0, d.1) + bit d.2 * 65536
