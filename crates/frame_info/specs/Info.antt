-- The information byte of the 13-byte frame buffer, field by field, and what follows from it: where the data start, and how many they are.
-- Source: ESP32-C3 manual, TWAI chapter, frame information (the SJA1000 sheet's transmit and receive buffer); the outline, "Frame buffer".
use Rattle.std.specs.Prelude.{ℕ, ◌+◌, min, Bool, true, false, cond, List, [], ◌∷◌, eqb, get_or}
use Rattle.laws.specs.Row.{unpack}

-- byte 0: frame format (1 extended), remote request, reserved, self-reception, length code
abbrev pub info_row : List ℕ
info_row = 1 ∷ 1 ∷ 1 ∷ 1 ∷ 4 ∷ []

-- from byte 1: the identifier, in two bytes or, of an extended frame, four
abbrev pub id_bytes : Bool → ℕ
id_bytes false = 2
id_bytes true = 4

-- then the data
abbrev pub data_start : Bool → ℕ
data_start format = 1 + id_bytes format

-- what a buffer says: the fields of byte 0
abbrev pub info_of : List ℕ → List ℕ
info_of b = unpack info_row (get_or b 0 0)

abbrev pub extended_of : List ℕ → Bool
extended_of b = eqb (get_or (info_of b) 0 0) 1

abbrev pub remote_of : List ℕ → Bool
remote_of b = eqb (get_or (info_of b) 1 0) 1

abbrev pub own_of : List ℕ → Bool
own_of b = eqb (get_or (info_of b) 3 0) 1

abbrev pub code_of : List ℕ → ℕ
code_of b = get_or (info_of b) 4 0

-- a remote frame has no data, whatever its code
unfoldable pub data_length_of : List ℕ → ℕ
data_length_of b = cond (remote_of b) 0 (min (code_of b) 8)

abbrev pub data_offset_of : List ℕ → ℕ
data_offset_of b = data_start (extended_of b)
