-- What the constructors of identifiers answer, in the outline's numbers. An identifier is given by its number.
-- Source: ISO 11898-1, base and extended format; the outline, "Modules" and refusal 1.
use Rattle.std.specs.Prelude.{ℕ, ◌/◌, ◌^◌, Bool, true, cond, [], leb, Result}
use Rattle.laws.specs.Said.{Said, refuses, gives}
use Rattle.refusals.specs.Table.{answer_said}
use Rattle.identifiers.specs.Limits.{limit_of}
use Rattle.refusals.specs.declared.Refusal.{Refusal}
use Rattle.identifiers.specs.declared.StandardId.{StandardId}
use Rattle.identifiers.specs.declared.ExtendedId.{ExtendedId}

abbrev pub standard_said : Result StandardId Refusal → Said ℕ
standard_said = answer_said (λ id. id.0)

abbrev pub extended_said : Result ExtendedId Refusal → Said ℕ
extended_said = answer_said (λ id. id.0)

-- within its limit a value, above it refusal 1
abbrev pub checked : Bool → ℕ → ℕ → Said ℕ
checked format raw value = cond (leb raw (limit_of format)) (gives value) (refuses 1 [])

abbrev pub new_of : Bool → ℕ → Said ℕ
new_of format raw = checked format raw raw

-- the top 11 of 29 bits
abbrev pub base_of : ℕ → Said ℕ
base_of raw = checked true raw (raw / 2 ^ 18)
