-- The words of code and mask that numbers ask for, each written into its field.
-- Source: the outline, "Registers".
use Rattle.std.specs.Prelude.{ℕ, zero, suc, ◌+◌, List, [], ◌∷◌, length}
use Rattle.laws.specs.Bits.{bit_at}
use Rattle.filter_compilers.specs.Table.{joined}
use Rattle.filter_compilers.specs.Words.{code_of}

-- a number's lowest n bits as characters, the highest first
abbrev pub written : ℕ → ℕ → List ℕ
written zero v = []
written (suc n) v = (48 + bit_at v n) ∷ written n v

-- each field's number, written in as many characters as the field has positions
abbrev pub written_each : List (List ℕ) → List ℕ → List (List ℕ)
written_each [] values = []
written_each (f ∷ fields) [] = []
written_each (f ∷ fields) (v ∷ values) = written (length f) v ∷ written_each fields values

abbrev pub written_in : List (List ℕ) → List ℕ → List ℕ
written_in fields values = joined (written_each fields values)

-- the word that has each field's bits at the field's positions
unfoldable pub laid_of : List (List ℕ) → List ℕ → ℕ
laid_of fields values = code_of (joined fields) (written_in fields values)
