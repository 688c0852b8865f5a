-- The bits of the status word.
-- Source: ESP32-C3 manual, TWAI chapter, status register; the outline, "Decisions".
use Rattle.std.specs.Prelude.{ℕ, Bool}
use Rattle.laws.specs.Bits.{is_set}

abbrev pub receive_ready : ℕ → Bool
receive_ready status = is_set status 0

abbrev pub transmit_free : ℕ → Bool
transmit_free status = is_set status 2

abbrev pub in_error : ℕ → Bool
in_error status = is_set status 6

abbrev pub in_bus_off : ℕ → Bool
in_bus_off status = is_set status 7

abbrev pub missed : ℕ → Bool
missed status = is_set status 8
