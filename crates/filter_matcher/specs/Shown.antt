-- The two words that a frame shows, and the positions that it names in them: those that are compared.
-- Source: the outline, "The matcher", and request #103.
use Rattle.std.specs.Prelude.{ℕ, Bool, true, false, List, length, take, drop, replicate}
use Rattle.laws.specs.Row.{bit}
use Rattle.filter_compilers.specs.Table.{Filter, fields_of, joined}
use Rattle.filter_compilers.specs.Words.{code_of}
use Rattle.filter_types.specs.Words.{laid_of}
use Rattle.frame_info.specs.Info.{extended_of, remote_of, data_length_of}
use Rattle.frame_reading.specs.Buffer.{id_of}
use Rattle.filter_matcher.specs.Fields.{row_for, byte_of, numbers_in, compared_fields, first_fields}
use Rattle.filter_matcher.specs.declared.shown.Shown.{Shown}

-- a word of ones at these positions
unfoldable pub ones_at : List ℕ → ℕ
ones_at ps = code_of ps (replicate (length ps) 49)

-- the word that has a row's numbers at its positions
abbrev pub word_of : Filter → ℕ → ℕ → ℕ → ℕ → ℕ
word_of filter id rtr byte next = laid_of (fields_of filter) (numbers_in filter id rtr byte next)

-- by the data length, the positions of the fields that are compared in the first half (of all, for a single filter), and those of the second half
abbrev pub first_named : Filter → ℕ → ℕ
first_named filter bytes = ones_at (joined (take (compared_fields filter bytes) (fields_of filter)))

abbrev pub second_named : Filter → ℕ
second_named filter = ones_at (joined (drop (first_fields filter) (fields_of filter)))

-- by format, identifier, RTR, data length and what stands at the first two places of the data
unfoldable pub show_by : Bool → ℕ → ℕ → ℕ → ℕ → ℕ → Shown
show_by format id rtr bytes byte next =
    record {
      single = word_of (row_for false format) id rtr byte next;
      named = first_named (row_for false format) bytes;
      dual = word_of (row_for true format) id rtr byte next;
      first = first_named (row_for true format) bytes;
      second = second_named (row_for true format);
    }

unfoldable pub show_of : List ℕ → Shown
show_of frame = show_by (extended_of frame) (id_of frame) (bit (remote_of frame)) (data_length_of frame) (byte_of frame 0) (byte_of frame 1)
