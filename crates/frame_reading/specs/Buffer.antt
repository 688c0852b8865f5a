-- The 13-byte frame buffer behind its information byte: the identifier's row, which building and reading share, the data, and all that a buffer says.
-- Source: ESP32-C3 manual, TWAI chapter, frame identifier and frame data (the SJA1000 sheet's transmit and receive buffer);
-- the outline, "Frame buffer".
use Rattle.std.specs.Prelude.{ℕ, ◌+◌, Bool, true, false, List, [], ◌∷◌, get_or, take, drop}
use Rattle.laws.specs.Row.{regroup, bytes}
use Rattle.laws.specs.Tabulate.{part}
use Rattle.frame_info.specs.Info.{id_bytes, extended_of, remote_of, own_of, code_of, data_length_of, data_offset_of}

-- from byte 1: the identifier and spare bits
abbrev pub id_row : Bool → List ℕ
id_row false = 11 ∷ 5 ∷ []
id_row true = 29 ∷ 3 ∷ []

-- what a frame says: its format, a remote request, a self-reception, the length code, the identifier's number and the data
pub record Frame : Type 0 where
  pub extended : Bool
  pub remote : Bool
  pub own : Bool
  pub code : ℕ
  pub id : ℕ
  pub payload : List ℕ

-- the fields from byte 1, in the row of the frame's own format
abbrev pub id_fields : Bool → List ℕ → List ℕ
id_fields format b = regroup (bytes (id_bytes format)) (id_row format) (part b 1 (id_bytes format))

abbrev pub id_in : Bool → List ℕ → ℕ
id_in format b = get_or (id_fields format b) 0 0

abbrev pub id_of : List ℕ → ℕ
id_of b = id_in (extended_of b) b

unfoldable pub data_of : List ℕ → List ℕ
data_of b = take (data_length_of b) (drop (data_offset_of b) b)

-- the bytes in use: all up to the end of the data
unfoldable pub used_of : List ℕ → List ℕ
used_of b = take (data_offset_of b + data_length_of b) b

abbrev pub frame_of : List ℕ → Frame
frame_of b =
    record {
      extended = extended_of b;
      remote = remote_of b;
      own = own_of b;
      code = code_of b;
      id = id_of b;
      payload = data_of b;
    }
