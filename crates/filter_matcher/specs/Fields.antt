-- What a frame shows, field by field of the row that its format picks in the one table.
-- Source: ESP32-C3 manual, TWAI chapter, acceptance filter; SJA1000 data sheet, acceptance filter; the outline, "The matcher", and request #103.
use Rattle.std.specs.Prelude.{ℕ, ◌+◌, ◌/◌, ◌^◌, min, Bool, true, false, List, [], ◌∷◌, get_or}
use Rattle.laws.specs.Row.{bit}
use Rattle.filter_compilers.specs.Table.{Filter, single_standard, single_extended, dual_standard, dual_extended, fields_of}
use Rattle.filter_types.specs.Words.{written_each}
use Rattle.frame_info.specs.Info.{remote_of, data_offset_of}
use Rattle.frame_reading.specs.Buffer.{id_of}

-- the frame's own format picks the row
abbrev pub row_for : Bool → Bool → Filter
row_for false false = single_standard
row_for false true = single_extended
row_for true false = dual_standard
row_for true true = dual_extended

-- what stands at a place of the data; it is a byte of the frame only below the data length
abbrev pub byte_of : List ℕ → ℕ → ℕ
byte_of frame i = get_or frame (data_offset_of frame + i) 0

-- the numbers in each field of a row, by identifier, RTR and the first two data bytes; dual extended has the top 16 bits of the identifier
unfoldable pub numbers_in : Filter → ℕ → ℕ → ℕ → ℕ → List ℕ
numbers_in single_standard id rtr byte next = id ∷ rtr ∷ byte ∷ next ∷ []
numbers_in single_extended id rtr byte next = id ∷ rtr ∷ []
numbers_in dual_standard id rtr byte next = id ∷ rtr ∷ byte ∷ id ∷ rtr ∷ []
numbers_in dual_extended id rtr byte next = id / 2 ^ 13 ∷ id / 2 ^ 13 ∷ []

abbrev pub shown_in : Filter → List ℕ → List ℕ
shown_in filter frame = numbers_in filter (id_of frame) (bit (remote_of frame)) (byte_of frame 0) (byte_of frame 1)

abbrev pub shown_bits : Filter → List ℕ → List (List ℕ)
shown_bits filter frame = written_each (fields_of filter) (shown_in filter frame)

-- which fields are compared depends on the data length: of the first half (of all, for a single filter) the identifier and, where the row has it, RTR
-- always, and then a payload field for each byte that the frame has; so many from the first on
abbrev pub compared_fields : Filter → ℕ → ℕ
compared_fields single_standard bytes = 2 + min bytes 2
compared_fields single_extended bytes = 2
compared_fields dual_standard bytes = 2 + min bytes 1
compared_fields dual_extended bytes = 1

-- the first half of a dual filter has this many fields, a single filter all of them; the second half is those after them, and has no payload
abbrev pub first_fields : Filter → ℕ
first_fields single_standard = 4
first_fields single_extended = 2
first_fields dual_standard = 3
first_fields dual_extended = 1
