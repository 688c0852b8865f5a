-- The words of code and mask that pattern characters ask for at a row's positions.
-- Source: the outline, "Registers"; the pattern characters `0`, `1` and `x` of the Rust's filters.
use Rattle.std.specs.Prelude.{ℕ, ◌*◌, ◌^◌, cond, List, [], ◌∷◌, eqb}
use Rattle.std.specs.Int.Bits.{bit_or}

-- the code's bit: 1 for `1`
unfoldable pub one : ℕ → ℕ
one c = cond (eqb c 49) 1 0

-- the mask's bit: 0 for `x`, which is not compared
unfoldable pub care : ℕ → ℕ
care c = cond (eqb c 120) 0 1

-- a word with each character's bit at its position
unfoldable pub word_of : (ℕ → ℕ) → List ℕ → List ℕ → ℕ
word_of digit [] cs = 0
word_of digit (p ∷ ps) [] = 0
word_of digit (p ∷ ps) (c ∷ cs) = bit_or (digit c * 2 ^ p) (word_of digit ps cs)

abbrev pub code_of : List ℕ → List ℕ → ℕ
code_of ps cs = word_of one ps cs

abbrev pub mask_of : List ℕ → List ℕ → ℕ
mask_of ps cs = word_of care ps cs
