-- What a filter accepts of a 32-bit word, said of its words and of its registers.
-- Source: ESP32-C3 manual, TWAI chapter, acceptance filter: a mask-register bit of 0 means compared; the outline, "Registers".
use Rattle.std.specs.Prelude.{ℕ, ◌<◌, ◌≡◌, List}
use Rattle.laws.specs.Bits.{bit_at}
use Rattle.filter_registers.specs.Registers.{code_in, mask_in}

-- code and word agree on each bit that the mask has compared
abbrev pub Agree : ℕ → ℕ → ℕ → Type 0
Agree code mask w = (k : ℕ) → bit_at mask k ≡ 1 → bit_at code k ≡ bit_at w k

-- the registers accept a word
abbrev pub Accepts : List ℕ → ℕ → Type 0
Accepts registers w = (k : ℕ) → k < 32 → bit_at (mask_in registers) k ≡ 0 → bit_at (code_in registers) k ≡ bit_at w k
