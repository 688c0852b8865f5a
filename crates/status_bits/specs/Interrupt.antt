-- The bits of the interrupt word.
-- Source: ESP32-C3 manual, TWAI chapter, interrupt register; the outline, "The box".
use Rattle.std.specs.Prelude.{ℕ, Bool}
use Rattle.laws.specs.Bits.{is_set}

abbrev pub receives : ℕ → Bool
receives interrupt = is_set interrupt 0

abbrev pub transmits : ℕ → Bool
transmits interrupt = is_set interrupt 1

abbrev pub error_warning : ℕ → Bool
error_warning interrupt = is_set interrupt 2

abbrev pub error_passive : ℕ → Bool
error_passive interrupt = is_set interrupt 5

abbrev pub bus_error : ℕ → Bool
bus_error interrupt = is_set interrupt 7
