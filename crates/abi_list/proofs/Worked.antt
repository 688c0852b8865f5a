-- What docs/ABI.md works out, by computation: the filter of 0x100 and 0x104, and each refusal. Assumes nothing.
use Prim.Native.Nat.{ℕ}
use mathlib.Core.Path.{◌≡◌, refl}
use mathlib.Core.Bool.{false}
use mathlib.Core.List.{List, [], ◌∷◌}
use lib.ListN.{replicate}
use Rattle.laws.specs.Laid.{written}
use Rattle.filter_characters.specs.Characters.{bad_at}
use Rattle.filter_compilers.specs.Table.{fields_of}
use Rattle.filter_compilers.specs.Words.{one, care, word_of}
use Rattle.filter_compilers.specs.Answers.{compile_of}
use Rattle.filter_list.specs.Pattern.{character_at, pattern_of}
use Rattle.filter_list.specs.Answers.{first_above, registers_for, through_of, listing_of, listed_of}
use Rattle.abi_answers.specs.Answers.{answer_of, sized, delivering, delivery_leaves}

abbrev two : List ℕ
two = 0x100 ∷ 0x104 ∷ []

-- "00100000x00"
pub pattern-worked : pattern_of 11 two ≡ 48 ∷ 48 ∷ 49 ∷ 48 ∷ 48 ∷ 48 ∷ 48 ∷ 48 ∷ 120 ∷ 48 ∷ 48 ∷ []
unfolding pattern_of character_at
pattern-worked = refl

pub answer-worked : (answer_of (delivering 8 3 (replicate 8 0) (listed_of false two 11)) ≡ record { number = 0; value = 2 })
    × (answer_of (delivering 8 3 (replicate 8 0) (listed_of false two 10)) ≡ record { number = 6; value = 11 })
    × (answer_of (delivering 8 3 (replicate 8 0) (listed_of false (0x100 ∷ 0x800 ∷ 0x801 ∷ []) 10)) ≡ record { number = 1; value = 1 })
    × (answer_of (delivering 8 3 (replicate 8 0) (listed_of false [] 10)) ≡ record { number = 15; value = 0 })
    × (answer_of (delivering 8 3 (replicate 7 0) (listed_of false [] 10)) ≡ record { number = 14; value = 3 })
unfolding pattern_of character_at first_above registers_for through_of listing_of sized compile_of fields_of bad_at word_of care
answer-worked = (refl, refl, refl, refl, refl)

pub registers-worked : delivery_leaves 8 3 (replicate 8 0xA5) (listed_of false two 11) ≡ 0x20 ∷ 0 ∷ 0 ∷ 0 ∷ 0x00 ∷ 0x9F ∷ 0xFF ∷ 0xFF ∷ []
unfolding pattern_of character_at first_above registers_for through_of listing_of sized written compile_of fields_of bad_at word_of one care
registers-worked = refl
