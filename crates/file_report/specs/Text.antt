-- The text that the program prints for a file: its filters and its frames, each filter's verdict on each frame, and the lines.
-- Source: the outline, "Frame file and program".
use Rattle.std.specs.Prelude.{ℕ, ◌+◌, ◌*◌, Bool, false, cond, ◌||◌, List, [], ◌∷◌, ◌++◌, map, get_or}
use Rattle.laws.specs.Ascii.{ascii}
use Rattle.laws.specs.Said.{Said, refuses, gives}
use Rattle.laws.specs.Tabulate.{tabulate, part}
use Rattle.refusals.specs.Table.{in_one}
use Rattle.text.specs.Decimal.{decimal}
use Rattle.file_reading.specs.Format.{filter_bytes, frame_bytes}
use Rattle.file_reading.specs.declared.Sections.{Sections}
use Rattle.file_reading.specs.Reader.{read_of}
use Rattle.filter_matcher.specs.Words.{match_of}

-- a filter of a file
pub record Filter : Type 0 where
  pub kind : ℕ
  pub registers : List ℕ

-- what a file's sections hold: the filters, and the frames
abbrev pub filter_at : List ℕ → ℕ → Filter
filter_at s at = record { kind = get_or s at 0; registers = part s (at + 1) 8 }

abbrev pub filters_of : List ℕ → Sections → List Filter
filters_of s sections = tabulate sections.filters (λ i. filter_at s (sections.filters_start + filter_bytes * i))

abbrev pub frames_of : List ℕ → Sections → List (List ℕ)
frames_of s sections = tabulate sections.frames (λ i. part s (sections.frames_start + frame_bytes * i) frame_bytes)

-- a filter accepts a frame; no filter of a file that is read is refused (proofs/Given)
abbrev pub verdict : Said Bool → Bool
verdict (gives accepted) = accepted
verdict (refuses number carried) = false

abbrev pub accepts : List ℕ → Filter → Bool
accepts frame filter = verdict (match_of filter.kind filter.registers frame)

-- for each frame a row, in it each filter's verdict
abbrev pub rows_of : List Filter → List (List ℕ) → List (List Bool)
rows_of filters frames = map (λ frame. map (accepts frame) filters) frames

-- `1` or `0` for each filter, or `-` if there are none
abbrev pub mark_of : Bool → List ℕ
mark_of accepted = cond accepted (ascii "1") (ascii "0")

unfoldable pub marks : List Bool → List ℕ
marks [] = []
marks (accepted ∷ row) = mark_of accepted ++ marks row

unfoldable pub marks_of : List Bool → List ℕ
marks_of [] = ascii "-"
marks_of (accepted ∷ row) = marks (accepted ∷ row)

-- a frame's line: its index, a space, its marks
unfoldable pub line_of : ℕ → List Bool → List ℕ
line_of index row = decimal index ++ (ascii " " ++ (marks_of row ++ ascii "\n"))

-- the lines of the frames, from an index on
unfoldable pub lines_from : ℕ → List (List Bool) → List ℕ
lines_from index [] = []
lines_from index (row ∷ rows) = line_of index row ++ lines_from (index + 1) rows

-- some filter accepts the frame, and how many such frames there are
unfoldable pub any : List Bool → Bool
any [] = false
any (accepted ∷ row) = accepted || any row

unfoldable pub count_of : List (List Bool) → ℕ
count_of [] = 0
count_of (row ∷ rows) = cond (any row) 1 0 + count_of rows

-- the lines, and the number of frames that some filter accepts
unfoldable pub good_text : List (List Bool) → List ℕ
good_text rows = lines_from 0 rows ++ (ascii "accepted " ++ (decimal (count_of rows) ++ ascii "\n"))

-- a refusal's number, and where it is
unfoldable pub bad_text : ℕ → ℕ → List ℕ
bad_text number place = ascii "refused " ++ (decimal number ++ (ascii " at " ++ (decimal place ++ ascii "\n")))

-- by what the reader answers
abbrev pub read_text : List ℕ → Said Sections → List ℕ
read_text s (gives sections) = good_text (rows_of (filters_of s sections) (frames_of s sections))
read_text s (refuses number carried) = bad_text number (in_one carried)

unfoldable pub text_of : List ℕ → List ℕ
text_of s = read_text s (read_of s)
