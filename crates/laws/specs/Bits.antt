-- The bits of a number.
use Rattle.std.specs.Prelude.{ℕ, ◌/◌, ◌%◌, ◌^◌, Bool, eqb}

-- the bit at a position, counted from the lowest, which is 0
abbrev pub bit_at : ℕ → ℕ → ℕ
bit_at w k = w / 2 ^ k % 2

abbrev pub is_set : ℕ → ℕ → Bool
is_set word position = eqb (bit_at word position) 1
