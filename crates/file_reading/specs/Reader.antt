-- What reading a file answers: its fields from left to right, each looked for and then judged, and then that nothing follows.
-- Source: the outline, "Frame file and program" and refusals 7, 11, 12, 13.
use Rattle.std.specs.Prelude.{ℕ, zero, suc, ◌+◌, cond, List, [], ◌∷◌, ltb, length, get_or, Result, Ok, Err}
use Rattle.laws.specs.Said.{Said, refuses, gives}
use Rattle.refusals.specs.Table.{refusal_said, answer_said}
use Rattle.refusals.specs.declared.Refusal.{Refusal}
use Rattle.file_reading.specs.Format.{filter_limit, frame_limit, filter_bytes, frame_bytes, count_at}
use Rattle.file_reading.specs.declared.Sections.{Sections}

-- so many filters from 1 on, and so many frames from a place on
abbrev pub sections_with : ℕ → ℕ → ℕ → Sections
sections_with filters frames start = record { filters = filters; filters_start = 1; frames = frames; frames_start = start }

-- a field of so many bytes at a place in a file of so many, and what follows
abbrev pub field : ℕ → ℕ → ℕ → Said Sections → Said Sections
field len at bytes next = cond (ltb len (at + bytes)) (refuses 11 (at ∷ [])) next

-- so many frames from a place on, and nothing after them
unfoldable pub frames_from : ℕ → Sections → ℕ → ℕ → Said Sections
frames_from len sections zero at = cond (ltb at len) (refuses 13 (at ∷ [])) (gives sections)
frames_from len sections (suc n) at = field len at frame_bytes (frames_from len sections n (at + frame_bytes))

-- the frame count at a place, after so many filters, and the frames
unfoldable pub frames_at : List ℕ → ℕ → ℕ → Said Sections
frames_at s filters at =
    field (length s) at 2
    (cond (ltb frame_limit (count_at s at)) (refuses 12 (at ∷ []))
    (frames_from (length s) (sections_with filters (count_at s at) (at + 2)) (count_at s at) (at + 2)))

-- so many filters from a place on, each a kind and its registers, and what follows
unfoldable pub filters_from : List ℕ → ℕ → ℕ → ℕ → Said Sections
filters_from s filters zero at = frames_at s filters at
filters_from s filters (suc n) at =
    field (length s) at 1
    (cond (ltb 1 (get_or s at 0)) (refuses 7 (at ∷ []))
    (field (length s) (at + 1) 8 (filters_from s filters n (at + filter_bytes))))

unfoldable pub read_of : List ℕ → Said Sections
read_of s =
    field (length s) 0 1
    (cond (ltb filter_limit (get_or s 0 0)) (refuses 12 (0 ∷ []))
    (filters_from s (get_or s 0 0) (get_or s 0 0) 1))

abbrev pub reading_said : Result Sections Refusal → Said Sections
reading_said = answer_said (λ sections. sections)

-- a step, and what follows it
abbrev pub before : Result Unit Refusal → Said Sections → Said Sections
before (Ok done) next = next
before (Err f) next = refusal_said f
