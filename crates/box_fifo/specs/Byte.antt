-- An arrival's outcome as a byte: 0 whole, 1 mark, 2 not recorded.
-- Source: docs/ABI.md, "The box's script".
use Rattle.std.specs.Prelude.{ℕ}
use Rattle.box_fifo.specs.Ring.{Outcome, not_recorded, marked, stored}

abbrev pub outcome_byte : Outcome → ℕ
outcome_byte stored = 0
outcome_byte marked = 1
outcome_byte not_recorded = 2
