-- What docs/ABI.md works out of refusal 5, by computation: `2` as the third character of the second identifier's pattern. Assumes nothing.
use Prim.Native.Nat.{ℕ, ◌+◌, ◌*◌}
use mathlib.Core.Path.{◌≡◌, refl}
use mathlib.Core.List.{List, [], ◌∷◌}
use lib.ListN.{replicate}
use Rattle.filter_characters.specs.Characters.{bad_at}
use Rattle.filter_compilers.specs.Table.{dual_standard, fields_of}
use Rattle.filter_compilers.specs.Answers.{compile_of}
use Rattle.abi_answers.specs.Answers.{answer_of, sized, delivering}

-- "xx2xxxxxxxx"
abbrev third : List ℕ
third = 120 ∷ 120 ∷ 0x32 ∷ replicate 8 120

pub refused-worked : answer_of (delivering 8 5 (replicate 8 0) (compile_of dual_standard (replicate 11 120 ∷ replicate 1 120 ∷ replicate 8 120 ∷ third ∷ replicate 1 120 ∷ [])))
    ≡ record { number = 5; value = 3 * 65536 + 2 * 256 + 0x32 }
unfolding sized compile_of fields_of bad_at
refused-worked = refl
