-- Where each filter has its fields in the 32 positions of the registers: the one table.
-- Source: ESP32-C3 manual, TWAI chapter, acceptance filter; the outline, "Registers".
use Rattle.std.specs.Prelude.{ℕ, zero, suc, ◌+◌, List, [], ◌∷◌, ◌++◌, length}

pub data Filter : Type 0 where
  single_standard : Filter
  single_extended : Filter
  dual_standard : Filter
  dual_extended : Filter

-- n positions, the last of which is low
abbrev pub run : ℕ → ℕ → List ℕ
run low zero = []
run low (suc n) = (n + low) ∷ run low n

-- each field's positions, in argument order
unfoldable pub fields_of : Filter → List (List ℕ)
fields_of single_standard = run 21 11 ∷ run 20 1 ∷ run 8 8 ∷ run 0 8 ∷ []
fields_of single_extended = run 3 29 ∷ run 2 1 ∷ []
fields_of dual_standard = run 21 11 ∷ run 20 1 ∷ (run 16 4 ++ run 0 4) ∷ run 5 11 ∷ run 4 1 ∷ []
fields_of dual_extended = run 16 16 ∷ run 0 16 ∷ []

abbrev pub joined : List (List ℕ) → List ℕ
joined [] = []
joined (l ∷ ls) = l ++ joined ls

abbrev pub lengths : List (List ℕ) → List ℕ
lengths [] = []
lengths (l ∷ ls) = length l ∷ lengths ls

-- the position of each place of a filter's patterns, the fields joined
abbrev pub row_of : Filter → List ℕ
row_of filter = joined (fields_of filter)
