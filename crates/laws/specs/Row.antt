-- A register or a run of bytes as a manual draws it: a row of fields from the highest bit down, each with its width.
-- Source: the register drawings of the ESP32-C3 manual, TWAI chapter, and of the SJA1000 data sheet.
use Rattle.std.specs.Prelude.{ℕ, ◌+◌, ◌*◌, ◌/◌, ◌%◌, ◌^◌, ◌<◌, Bool, true, false, List, [], ◌∷◌, replicate}

abbrev pub width : List ℕ → ℕ
width [] = 0
width (w ∷ row) = w + width row

-- the number that has these values in a row's fields
abbrev pub pack : List ℕ → List ℕ → ℕ
pack [] values = 0
pack (w ∷ row) [] = 0
pack (w ∷ row) (v ∷ values) = v * 2 ^ width row + pack row values

-- the values in a row's fields
abbrev pub unpack : List ℕ → ℕ → List ℕ
unpack [] n = []
unpack (w ∷ row) n = n / 2 ^ width row ∷ unpack row (n % 2 ^ width row)

-- values that stand in one row, read in another of the same width
abbrev pub regroup : List ℕ → List ℕ → List ℕ → List ℕ
regroup from to values = unpack to (pack from values)

-- a yes or no as a field of one bit
abbrev pub bit : Bool → ℕ
bit false = 0
bit true = 1

-- n whole bytes, the high byte first
abbrev pub bytes : ℕ → List ℕ
bytes n = replicate n 8

-- each value fits its field
pub data Fit : List ℕ → List ℕ → Type 0 where
  none : Fit [] []
  field : (w v : ℕ) {row values : List ℕ} → v < 2 ^ w → Fit row values → Fit (w ∷ row) (v ∷ values)
