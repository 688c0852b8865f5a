-- The filters as the matcher holds them, and the frames' rows by their index. No promise of a public function cites these forms:
-- proofs/Held shows that they are those of Text.
use Rattle.std.specs.Prelude.{ℕ, ◌+◌, ◌*◌, Bool, true, false, eqb, List, map, get_or}
use Rattle.laws.specs.Tabulate.{tabulate, part}
use Rattle.filter_registers.specs.Registers.{code_in, mask_in}
use Rattle.file_reading.specs.Format.{filter_bytes, frame_bytes}
use Rattle.file_reading.specs.declared.Sections.{Sections}
use Rattle.filter_matcher.specs.declared.Filter.{Filter}
use Rattle.filter_matcher.specs.declared.Kind.{Kind}
use Rattle.filter_matcher.specs.declared.Kind.TheVariants.{Single, Dual}
use Rattle.filter_matcher.specs.declared.shown.Shown.{Shown}
use Rattle.filter_matcher.specs.Words.{is_dual, agrees_of}
use Rattle.file_report.specs.Text.{filters_of, accepts}

abbrev pub kind_by : Bool → Kind
kind_by false = Single
kind_by true = Dual

-- the filter at a place, and those of a file
abbrev pub held_at : List ℕ → ℕ → Filter
held_at s at =
    record { kind = kind_by (eqb (get_or s at 0) 1); code = code_in (part s (at + 1) 8); mask = mask_in (part s (at + 1) 8) }

abbrev pub held_of : List ℕ → Sections → List Filter
held_of s sections = tabulate sections.filters (λ i. held_at s (sections.filters_start + filter_bytes * i))

-- whether a filter accepts what a frame shows
abbrev pub agrees : Shown → Filter → Bool
agrees shown filter = agrees_of (is_dual filter.kind) filter.code filter.mask shown

-- the frame at an index, and its row
abbrev pub frame_at : List ℕ → Sections → ℕ → List ℕ
frame_at s sections i = part s (sections.frames_start + frame_bytes * i) frame_bytes

unfoldable pub row_at : List ℕ → Sections → ℕ → List Bool
row_at s sections i = map (accepts (frame_at s sections i)) (filters_of s sections)

abbrev pub rows_in : List ℕ → Sections → List (List Bool)
rows_in s sections = tabulate sections.frames (row_at s sections)
