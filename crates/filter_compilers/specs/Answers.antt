-- What the compilers by patterns answer: the refusal that is due, else the registers.
-- Source: the outline, refusals 4 and 5: all lengths in argument order, then characters; request #106 for what 5 carries.
use Rattle.std.specs.Prelude.{ℕ, suc, cond, List, [], ◌∷◌, eqb, ltb, length, get_or, replicate}
use Rattle.laws.specs.Said.{Said, refuses, gives, accepted}
use Rattle.filter_characters.specs.Characters.{bad_at}
use Rattle.filter_registers.specs.Registers.{registers_of}
use Rattle.filter_compilers.specs.Table.{Filter, fields_of, row_of, joined, lengths}
use Rattle.filter_compilers.specs.Words.{code_of, mask_of}

-- by the fields' widths and the patterns' lengths, counted from a field on; and what is said where all are right
abbrev pub lengths_of : ℕ → List ℕ → List ℕ → Said ℕ → Said ℕ
lengths_of field [] [] rest = rest
lengths_of field [] (l ∷ ls) rest = refuses 4 (field ∷ [])
lengths_of field (n ∷ ns) [] rest = refuses 4 (field ∷ [])
lengths_of field (n ∷ ns) (l ∷ ls) rest = cond (eqb l n) (lengths_of (suc field) ns ls rest) (refuses 4 (field ∷ []))

-- by the patterns, counted from a field on: the first byte that is no pattern character, with its field, its place there and what it is
abbrev pub characters_of : ℕ → List (List ℕ) → Said ℕ
characters_of field [] = gives 8
characters_of field (p ∷ patterns) =
    cond (ltb (bad_at p) (length p)) (refuses 5 (field ∷ bad_at p ∷ get_or p (bad_at p) 0 ∷ [])) (characters_of (suc field) patterns)

-- the answer, and the eight registers beside it: zeros after a refusal
abbrev pub answered : Said ℕ → List ℕ → Said ℕ × List ℕ
answered said registers = (said, cond (accepted said) registers (replicate 8 0))

-- by the fields' widths, the row's positions and the patterns
abbrev pub compile_by : List ℕ → List ℕ → List (List ℕ) → Said ℕ × List ℕ
compile_by widths row patterns =
    answered (lengths_of 0 widths (lengths patterns) (characters_of 0 patterns))
    (registers_of (code_of row (joined patterns)) (mask_of row (joined patterns)))

unfoldable pub compile_of : Filter → List (List ℕ) → Said ℕ × List ℕ
compile_of filter patterns = compile_by (lengths (fields_of filter)) (row_of filter) patterns
