-- The command that goes with each answer of transmit, and of receive, so that one look at the answer gives both numbers. An answer that the
-- call never gives has none. No promise of a public function cites it: that the command goes with the answer is proved where it is used.
use Rattle.status_decisions.specs.Answers.{Answer, bus_off, transmission_aborted, would_block, pending, overrun, done, Action, nothing, abort, write_frame, read_and_release}

abbrev pub with_transmit : Answer → Action
with_transmit done = write_frame
with_transmit would_block = nothing
with_transmit pending = nothing
with_transmit bus_off = nothing
with_transmit transmission_aborted = abort
with_transmit overrun = nothing

abbrev pub with_receive : Answer → Action
with_receive done = read_and_release
with_receive would_block = nothing
with_receive pending = nothing
with_receive bus_off = nothing
with_receive transmission_aborted = nothing
with_receive overrun = nothing
