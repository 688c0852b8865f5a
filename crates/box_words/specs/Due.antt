-- What the words of a start call for, and what a finish answers.
-- Source: the outline, "The box", steps 1, 2 and 4, with the bits of `status_bits`.
use Rattle.std.specs.Prelude.{◌+◌, ◌-◌, ◌^◌, Bool, ◌&&◌, ◌||◌}
use Rattle.std.specs.Int.Bits.{bit_and, bit_or}
use Rattle.laws.specs.Row.{bit}
use Rattle.status_bits.specs.Status.{in_error, in_bus_off}
use Rattle.status_bits.specs.Interrupt.{receives, transmits, error_warning, error_passive, bus_error}
use Rattle.box_words.specs.declared.Words.{Words}
use Rattle.box_words.specs.declared.Finished.{Finished}

unfoldable pub receive_due : Words → Bool
receive_due w = receives w.interrupt

-- error warning, bus-off and error are all set
unfoldable pub notice_due : Words → Bool
notice_due w = error_warning w.interrupt && (in_bus_off w.status && in_error w.status)

-- any of error warning, error passive, bus error
unfoldable pub error_due : Words → Bool
error_due w = error_warning w.interrupt || (error_passive w.interrupt || bus_error w.interrupt)

-- transmit wakes: one each for a notice, for transmit, and for any of the errors; error wakes: the first and the last of
-- those; enable AND (NOT interrupt OR 1)
unfoldable pub finish_of : Words → Finished
finish_of w =
    record {
      transmit_wakes = bit (notice_due w) + bit (transmits w.interrupt) + bit (error_due w);
      error_wakes = bit (notice_due w) + bit (error_due w);
      enable = bit_and w.enable (bit_or (2 ^ 32 - 1 - w.interrupt) 1);
    }
