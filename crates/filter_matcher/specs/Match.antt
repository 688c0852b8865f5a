-- Which frames a filter accepts, position by position over the one table.
-- Source: ESP32-C3 manual, TWAI chapter, acceptance filter; SJA1000 data sheet, acceptance filter; the outline, "The matcher", and request #103.
use Rattle.std.specs.Prelude.{ℕ, Bool, true, false, ◌&&◌, ◌||◌, List, [], ◌∷◌, eqb, take, drop}
use Rattle.filter_compilers.specs.Table.{fields_of, joined}
use Rattle.filter_compilers.specs.Meaning.{patterns_in}
use Rattle.frame_info.specs.Info.{extended_of, data_length_of}
use Rattle.filter_matcher.specs.Fields.{row_for, shown_bits, compared_fields, first_fields}

-- a character that is asked for and the one that is shown: `x` is not compared
abbrev pub fits : ℕ → ℕ → Bool
fits asked shown = eqb asked 120 || eqb asked shown

-- each character that is asked for is shown, and fits
unfoldable pub all_fit : List ℕ → List ℕ → Bool
all_fit [] shown = true
all_fit (c ∷ asked) [] = false
all_fit (c ∷ asked) (s ∷ shown) = fits c s && all_fit asked shown

-- single: the fields that are compared fit; dual: those of the first half do, or all of the second, which starts after `half` fields
unfoldable pub fits_either : Bool → ℕ → ℕ → List (List ℕ) → List (List ℕ) → Bool
fits_either dual compared half asked shown =
    all_fit (joined (take compared asked)) (joined (take compared shown)) || (dual && all_fit (joined (drop half asked)) (joined (drop half shown)))

-- a filter's characters, field by field, against what a frame shows in these fields; payload bits only for bytes that the frame has
abbrev pub fits_filter : Bool → Bool → List (List ℕ) → List ℕ → Bool
fits_filter dual format asked frame =
    fits_either dual (compared_fields (row_for dual format) (data_length_of frame)) (first_fields (row_for dual format)) asked (shown_bits (row_for dual format) frame)

-- at the positions that the row's fields name, the registers' characters: `x` where the mask register has 1
unfoldable pub accepts_of : Bool → List ℕ → List ℕ → Bool
accepts_of dual registers frame =
    fits_filter dual (extended_of frame) (patterns_in registers (fields_of (row_for dual (extended_of frame)))) frame
