-- Which identifiers there are.
-- Source: ISO 11898-1, base format (11 bits) and extended format (29 bits); the outline, "Modules".
use Rattle.std.specs.Prelude.{ℕ, Bool, true, false, leb}
use Rattle.identifiers.specs.declared.Id.{Id}
use Rattle.identifiers.specs.declared.Id.TheVariants.{Standard, Extended}

-- how many bits an identifier has, by its format (extended or not)
abbrev pub width_of : Bool → ℕ
width_of false = 11
width_of true = 29

-- the largest identifier of the base format, and of the extended format
abbrev pub limit_of : Bool → ℕ
limit_of false = 0x7FF
limit_of true = 0x1FFF_FFFF

-- an identifier as its format (extended or not) and its number
abbrev pub is_extended : Id → Bool
is_extended (Standard id) = false
is_extended (Extended id) = true

abbrev pub raw_of : Id → ℕ
raw_of (Standard id) = id.0
raw_of (Extended id) = id.0

abbrev pub within_limit : Id → Bool
within_limit id = leb (raw_of id) (limit_of (is_extended id))
