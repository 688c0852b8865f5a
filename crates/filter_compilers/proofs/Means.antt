-- What an accepted pattern set makes: the fields joined are pattern characters, as many as the row has places, and the registers accept exactly
-- the words that match them. For every filter. Assumes nothing.
use Prim.Native.Nat.{ℕ, ◌+◌, ◌^◌, ◌<◌}
use mathlib.Core.Path.{◌≡◌, refl, sym, ap, ◌∙◌}
use mathlib.Core.Logic.{◌↔◌}
use mathlib.Core.List.{List, [], ◌∷◌}
use lib.Dec.{T}
use lib.ListN.{length, length-append}
use Rattle.laws.specs.Said.{gives}
use Rattle.filter_characters.specs.Characters.{all_characters}
use Rattle.filter_registers.specs.Registers.{registers_of}
use Rattle.filter_registers.specs.Meaning.{Accepts}
use Rattle.filter_registers.proofs.Registers.{accepts-is}
use Rattle.filter_compilers.specs.Table.{Filter, fields_of, row_of, joined, lengths}
use Rattle.filter_compilers.specs.Words.{one, care, code_of, mask_of}
use Rattle.filter_compilers.specs.Answers.{characters_of, compile_of}
use Rattle.filter_compilers.specs.Meaning.{Matches}
use Rattle.filter_compilers.proofs.Table.{row-distinct, row_within}
use Rattle.filter_compilers.proofs.Characters.{one-lt, care-lt}
use Rattle.filter_compilers.proofs.Lengths.{lengths-given}
use Rattle.filter_compilers.proofs.Joined.{total, said-good}
use Rattle.filter_compilers.proofs.Agree.{word_lt, law}

-- the lists' lengths tell that of the lists joined
joined_length : (ss : List (List ℕ)) → length (joined ss) ≡ total (lengths ss)
joined_length [] = refl
joined_length (s ∷ ss) = length-append s (joined ss) ∙ ap (λ (n : ℕ). length s + n) (joined_length ss)

module _ (filter : Filter) (patterns : List (List ℕ)) (made : (compile_of filter patterns).0 ≡ gives 8) where
  given : (lengths patterns ≡ lengths (fields_of filter)) × (characters_of 0 patterns ≡ gives 8)
  unfolding compile_of
  given = lengths-given 0 (lengths (fields_of filter)) (lengths patterns) (characters_of 0 patterns) made

  pub widths : lengths patterns ≡ lengths (fields_of filter)
  widths = given.0

  pub whole : length (joined patterns) ≡ length (row_of filter)
  whole = joined_length patterns ∙ ap total widths ∙ sym (joined_length (fields_of filter))

  pub good : T (all_characters (joined patterns))
  good = rw (said-good 0 patterns given.1) tt

  pub code-small : code_of (row_of filter) (joined patterns) < 2 ^ 32
  code-small = word_lt one one-lt (row_of filter) (joined patterns) (row_within filter)

  pub mask-small : mask_of (row_of filter) (joined patterns) < 2 ^ 32
  mask-small = word_lt care care-lt (row_of filter) (joined patterns) (row_within filter)

  pub registers-made : (compile_of filter patterns).1 ≡ registers_of (code_of (row_of filter) (joined patterns)) (mask_of (row_of filter) (joined patterns))
  unfolding compile_of
  registers-made = rw made

  -- each character other than `x` equals the word's bit at its position
  pub means : (w : ℕ) → Accepts (compile_of filter patterns).1 w ↔ Matches (row_of filter) (joined patterns) w
  means w =
      let a = accepts-is (code_of (row_of filter) (joined patterns)) (mask_of (row_of filter) (joined patterns)) w code-small mask-small in
      let l = law (row_of filter) (joined patterns) (row-distinct filter) whole good w in
      rw registers-made (λ x. l.0 (a.0 x), λ y. a.1 (l.1 y))
