-- At each turn the sum is that of the entries before the place, each of at most 13. Assumes nothing.
use Rattle.std.proofs.Common.{◌≡◌, ◌≤◌, ◌*◌}
use Rattle.box_fifo.specs.Ring.{sum_to}
use Rattle.box_fifo.proofs.sum_weights.Given as goal

abbrev pub invariant-loop-i : goal.invariant-loop-i
invariant-loop-i l = record { said : l.sum ≡ sum_to l.fifo l.i; small : l.sum ≤ 13 * l.i }
