-- What the compilers by code and mask answer: the refusal that is due, else the registers.
-- Source: the outline, refusal 1, given if any identifier code or mask is above its limit.
use Rattle.std.specs.Prelude.{ℕ, Bool, true, false, cond, ◌&&◌, List, [], ◌∷◌, leb}
use Rattle.laws.specs.Said.{Said, refuses, gives}
use Rattle.identifiers.specs.Limits.{limit_of}
use Rattle.filter_registers.specs.Registers.{registers_of}
use Rattle.filter_compilers.specs.Table.{Filter, single_standard, single_extended, dual_standard, dual_extended, fields_of}
use Rattle.filter_compilers.specs.Answers.{answered}
use Rattle.filter_types.specs.Words.{laid_of}

-- what a field holds: an identifier of a format (extended or not), or a number that has no limit
pub data Held : Type 0 where
  identifier : Bool → Held
  number : Held

-- field by field, in argument order; dual extended has the top 16 bits of two identifiers, and any 16 bits are good
abbrev pub held_by : Filter → List Held
held_by single_standard = identifier false ∷ number ∷ number ∷ number ∷ []
held_by single_extended = identifier true ∷ number ∷ []
held_by dual_standard = identifier false ∷ number ∷ number ∷ identifier false ∷ number ∷ []
held_by dual_extended = number ∷ number ∷ []

-- a number for each field, and each identifier within its limit
abbrev pub all_within : List Held → List ℕ → Bool
all_within [] [] = true
all_within [] (n ∷ values) = false
all_within (h ∷ fields) [] = false
all_within (identifier format ∷ fields) (n ∷ values) = leb n (limit_of format) && all_within fields values
all_within (number ∷ fields) (n ∷ values) = all_within fields values

-- no identifier code or mask is above its limit
abbrev pub limits_kept : Filter → List ℕ → List ℕ → Bool
limits_kept filter codes masks = all_within (held_by filter) codes && all_within (held_by filter) masks

-- from each field's code and mask
unfoldable pub code_mask_of : Filter → List ℕ → List ℕ → Said ℕ × List ℕ
code_mask_of filter codes masks =
    answered (cond (limits_kept filter codes masks) (gives 8) (refuses 1 []))
    (registers_of (laid_of (fields_of filter) codes) (laid_of (fields_of filter) masks))
