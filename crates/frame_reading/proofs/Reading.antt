-- An identifier that is read is within its limit: the row of its format is as wide as its bytes, and its field as the limit. Assumes nothing.
use Prim.Native.Nat.{ℕ, ◌+◌, ◌≤◌}
use mathlib.Core.Path.{◌≡◌, refl, sym}
use mathlib.Core.Bool.{Bool, true, false}
use mathlib.Core.List.{List, [], ◌∷◌}
use lib.ListN.{get_or}
use native.Mathlib.Omega.{arith}
use Rattle.laws.specs.Row.{width, bytes, Fit, field}
use Rattle.laws.specs.Tabulate.{part, Bytes}
use Rattle.laws.proofs.Row.{regroup-fits}
use Rattle.laws.proofs.Tabulate.{bytes_fit}
use Rattle.identifiers.specs.Limits.{limit_of}
use Rattle.frame_info.specs.Info.{id_bytes, extended_of}
use Rattle.frame_reading.specs.Buffer.{id_row, id_fields, id_in}
use Rattle.frame_reading.specs.Reading.{identifier_of}

-- both formats' rows are as wide as their bytes
pub row-width : (format : Bool) → width (id_row format) ≡ width (bytes (id_bytes format))
row-width false = refl
row-width true = refl

pub two_fields : (format : Bool) (b : List ℕ) → id_fields format b ≡ id_in format b ∷ get_or (id_fields format b) 1 0 ∷ []
two_fields false b = refl
two_fields true b = refl

fit-limit : (format : Bool) (id spare : ℕ) → Fit (id_row format) (id ∷ spare ∷ []) → id ≤ limit_of format
fit-limit false id spare (field w v h rest) = omega arith
fit-limit true id spare (field w v h rest) = omega arith

pub bytes-row-fit : (format : Bool) (b : List ℕ) → Bytes b → Fit (bytes (id_bytes format)) (part b 1 (id_bytes format))
bytes-row-fit format b small = bytes_fit (id_bytes format) (λ i. get_or b (1 + i) 0) (λ i. small (1 + i))

-- in the row of either format
pub id-within : (format : Bool) (b : List ℕ) → Bytes b → id_in format b ≤ limit_of format
id-within format b small =
    fit-limit format (id_in format b) (get_or (id_fields format b) 1 0)
    (rw (two_fields format b) at
    (regroup-fits (bytes (id_bytes format)) (id_row format) (part b 1 (id_bytes format)) (sym (row-width format)) (bytes-row-fit format b small)))

-- for all 13-byte buffers, and any other bytes: what reading gives is within the limit of the format that it gives
pub identifier-within : (b : List ℕ) → Bytes b → (identifier_of b).1 ≤ limit_of (identifier_of b).0
unfolding identifier_of
identifier-within b small = id-within (extended_of b) b small
