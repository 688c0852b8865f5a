-- What the reader answers as one number: four fields of 16 bits, which are both counts and each section's start.
-- Source: docs/ABI.md.
use Rattle.std.specs.Prelude.{ℕ, List, [], ◌∷◌}
use Rattle.laws.specs.Row.{pack}
use Rattle.laws.specs.Said.{Said, refuses, gives}
use Rattle.file_reading.specs.declared.Sections.{Sections}

-- from the highest field down
abbrev pub found_row : List ℕ
found_row = 16 ∷ 16 ∷ 16 ∷ 16 ∷ []

-- the first frame's offset, the first filter's offset, the number of frames, the number of filters
abbrev pub found_fields : Sections → List ℕ
found_fields sections = sections.frames_start ∷ sections.filters_start ∷ sections.frames ∷ sections.filters ∷ []

abbrev pub found_number : Sections → ℕ
found_number sections = pack found_row (found_fields sections)

abbrev pub found_said : Said Sections → Said ℕ
found_said (gives sections) = gives (found_number sections)
found_said (refuses number carried) = refuses number carried
