-- The eight registers: the code, high byte first, then the complement of the mask.
-- Source: ESP32-C3 manual, TWAI chapter, acceptance code and acceptance mask; the outline, "Registers".
use Rattle.std.specs.Prelude.{ℕ, ◌-◌, ◌^◌, List, ◌++◌}
use Rattle.laws.specs.Row.{pack, unpack, bytes}
use Rattle.laws.specs.Tabulate.{part}

abbrev pub registers_of : ℕ → ℕ → List ℕ
registers_of code mask = unpack (bytes 4) code ++ unpack (bytes 4) (2 ^ 32 - 1 - mask)

-- the words in them; a bit of the second is 0 where the position is compared
abbrev pub code_in : List ℕ → ℕ
code_in registers = pack (bytes 4) (part registers 0 4)

abbrev pub mask_in : List ℕ → ℕ
mask_in registers = pack (bytes 4) (part registers 4 4)
