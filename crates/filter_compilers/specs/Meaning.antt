-- What a filter accepts of a 32-bit word, said of its patterns; and the patterns that registers have.
-- Source: ESP32-C3 manual, TWAI chapter, acceptance filter: a mask-register bit of 0 means compared; the outline, "Registers".
use Rattle.std.specs.Prelude.{ℕ, ◌+◌, ◌<◌, ◌≡◌, Bool, true, cond, not, ◌&&◌, List, [], ◌∷◌, map, eqb, ltb, length, get_or}
use Rattle.laws.specs.Bits.{bit_at}
use Rattle.filter_registers.specs.Registers.{code_in, mask_in}

-- no two of a row's positions are equal
abbrev pub fresh : ℕ → List ℕ → Bool
fresh p [] = true
fresh p (q ∷ qs) = not (eqb p q) && fresh p qs

abbrev pub distinct : List ℕ → Bool
distinct [] = true
distinct (p ∷ ps) = fresh p ps && distinct ps

-- each is a position of a 32-bit word
abbrev pub within : List ℕ → Bool
within [] = true
within (p ∷ ps) = ltb p 32 && within ps

-- each character other than `x` equals the word's bit at its position
abbrev pub Matches : List ℕ → List ℕ → ℕ → Type 0
Matches ps cs w = (i : ℕ) → i < length cs → (get_or cs i 0 ≡ 120 → ⊥) → get_or cs i 0 ≡ 48 + bit_at w (get_or ps i 0)

-- the pattern character that the registers have at a position
abbrev pub character_in : List ℕ → ℕ → ℕ
character_in registers p = cond (eqb (bit_at (mask_in registers) p) 1) 120 (48 + bit_at (code_in registers) p)

abbrev pub characters_in : List ℕ → List ℕ → List ℕ
characters_in registers ps = map (character_in registers) ps

abbrev pub patterns_in : List ℕ → List (List ℕ) → List (List ℕ)
patterns_in registers fields = map (characters_in registers) fields
