-- The identifier pattern of a list, and the filter that it makes.
-- Source: request #102: a position where all agree is fixed, any other is `x`, and RTR and payload are `x`.
use Rattle.std.specs.Prelude.{ℕ, zero, suc, ◌+◌, Bool, true, false, cond, ◌&&◌, List, [], ◌∷◌, eqb, replicate}
use Rattle.laws.specs.Bits.{bit_at}
use Rattle.filter_compilers.specs.Table.{Filter, single_standard, single_extended}

-- each entry has this bit at a position
abbrev pub all_have : ℕ → ℕ → List ℕ → Bool
all_have bit k [] = true
all_have bit k (n ∷ list) = eqb (bit_at n k) bit && all_have bit k list

-- `0` where each entry has a 0, `1` where each has a 1, and `x` where they differ
unfoldable pub character_at : List ℕ → ℕ → ℕ
character_at list k = cond (all_have 0 k list) 48 (cond (all_have 1 k list) 49 120)

-- the same, told by the bits that all entries have and the positions where some differ
abbrev pub character_by : ℕ → ℕ → ℕ → ℕ
character_by agreed differing k = cond (eqb (bit_at differing k) 1) 120 (48 + bit_at agreed k)

-- a character for each of n positions, that of the highest first
abbrev pub down_from : ℕ → (ℕ → ℕ) → List ℕ
down_from zero character = []
down_from (suc n) character = character n ∷ down_from n character

unfoldable pub pattern_of : ℕ → List ℕ → List ℕ
pattern_of width list = down_from width (character_at list)

-- the single filter of a format
abbrev pub single_of : Bool → Filter
single_of false = single_standard
single_of true = single_extended

-- its patterns, where the identifier's is given and all else is `x`
abbrev pub with_identifier : Bool → List ℕ → List (List ℕ)
with_identifier false pattern = pattern ∷ replicate 1 120 ∷ replicate 8 120 ∷ replicate 8 120 ∷ []
with_identifier true pattern = pattern ∷ replicate 1 120 ∷ []
