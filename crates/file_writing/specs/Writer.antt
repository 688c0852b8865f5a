-- What writing a file answers, and what it leaves in the output.
-- Source: the outline, "Frame file and program" and refusals 6, 7, 12, 14 in the writer's order.
use Rattle.std.specs.Prelude.{ℕ, zero, suc, ◌+◌, ◌*◌, ◌/◌, ◌%◌, cond, List, ◌∷◌, ◌++◌, [], ltb, length, get_or, Result}
use Rattle.laws.specs.Said.{Said, refuses, gives}
use Rattle.laws.specs.Laid.{written}
use Rattle.refusals.specs.Table.{answer_said}
use Rattle.refusals.specs.declared.Refusal.{Refusal}
use Rattle.file_reading.specs.Format.{filter_limit, frame_limit, filter_bytes, frame_bytes}

-- the file of these entries
abbrev pub filter_count : List ℕ → ℕ
filter_count filters = length filters / filter_bytes

abbrev pub frame_count : List ℕ → ℕ
frame_count frames = length frames / frame_bytes

abbrev pub frames_part : List ℕ → List ℕ
frames_part frames = frame_count frames / 256 ∷ frame_count frames % 256 ∷ frames

abbrev pub file_of : List ℕ → List ℕ → List ℕ
file_of filters frames = filter_count filters ∷ (filters ++ frames_part frames)

-- the first of so many filters, counted from i, whose kind is not 0 or 1; past the last if there is none
unfoldable pub first_bad_kind : List ℕ → ℕ → ℕ → ℕ
first_bad_kind filters zero i = i
first_bad_kind filters (suc n) i = cond (ltb 1 (get_or filters (filter_bytes * i) 0)) i (first_bad_kind filters n (i + 1))

abbrev pub bad_kind : List ℕ → ℕ
bad_kind filters = first_bad_kind filters (filter_count filters) 0

abbrev pub needed : List ℕ → List ℕ → ℕ
needed filters frames = 3 + length filters + length frames

-- by the sections and the length of the output: the length of the file
unfoldable pub write_of : List ℕ → List ℕ → ℕ → Said ℕ
write_of filters frames room =
    cond (ltb 0 (length filters % filter_bytes)) (refuses 14 (0 ∷ []))
    (cond (ltb 0 (length frames % frame_bytes)) (refuses 14 (1 ∷ []))
    (cond (ltb filter_limit (filter_count filters)) (refuses 12 (0 ∷ []))
    (cond (ltb frame_limit (frame_count frames)) (refuses 12 (1 ∷ []))
    (cond (ltb (bad_kind filters) (filter_count filters)) (refuses 7 (bad_kind filters ∷ []))
    (cond (ltb room (needed filters frames)) (refuses 6 (needed filters frames ∷ []))
    (gives (needed filters frames)))))))

-- the output at exit
abbrev pub leaves : List ℕ → List ℕ → List ℕ → List ℕ
leaves filters frames out = written (write_of filters frames (length out)) (file_of filters frames) out

abbrev pub writing_said : Result ℕ Refusal → Said ℕ
writing_said = answer_said (λ length. length)
