-- When two builders mean the same, and which codes have no bit outside their mask.
-- Source: the outline, "Registers".
use Rattle.std.specs.Prelude.{ℕ, ◌^◌, ◌<◌, ◌≡◌, ◌↔◌, List}
use Rattle.laws.specs.Bits.{bit_at}
use Rattle.filter_registers.specs.Meaning.{Agree, Accepts}

-- two pairs of code and mask mean the same: they agree with the same words
abbrev pub Same : ℕ → ℕ → ℕ → ℕ → Type 0
Same c m c' m' = (w : ℕ) → w < 2 ^ 32 → Agree c m w ↔ Agree c' m' w

-- no code bit outside the mask
abbrev pub Tidy : ℕ → ℕ → Type 0
Tidy c m = (k : ℕ) → bit_at m k ≡ 0 → bit_at c k ≡ 0

-- two register sets mean the same: they accept the same words
abbrev pub SameMeaning : List ℕ → List ℕ → Type 0
SameMeaning r r' = (w : ℕ) → w < 2 ^ 32 → Accepts r w ↔ Accepts r' w
