-- What building answers: the refusal that is due, else the buffer; in the Rust's way, and in every way that is told by the largest code of a remote frame.
-- Source: the outline, refusals 1 to 3 in this order; ISO 11898-1, data length code; request #101: there a remote frame may have code 0 to 8.
use Rattle.std.specs.Prelude.{ℕ, ◌%◌, ◌≡◌, Bool, false, cond, not, ◌&&◌, ◌||◌, List, [], ◌∷◌, eqb, ltb, leb, length, replicate, Result, ⊤}
use Rattle.laws.specs.Said.{Said, refuses, gives, accepted}
use Rattle.refusals.specs.declared.Refusal.{Refusal}
use Rattle.refusals.specs.Table.{answer_said, bytes_said}
use Rattle.identifiers.specs.declared.Id.{Id}
use Rattle.identifiers.specs.Limits.{limit_of, is_extended, raw_of}
use Rattle.frame_reading.specs.Buffer.{Frame}
use Rattle.frame_building.specs.Buffer.{buffer_of}
use Rattle.frame_building.specs.declared.Way.{Way}
use Rattle.frame_building.specs.declared.Way.TheVariants.{Rust, Iso}

-- data longer than 8, or a remote frame with data
abbrev pub invalid_length : Bool → ℕ → Bool
invalid_length remote length = ltb 8 length || (remote && ltb 0 length)

-- a code above 15, or a length below 8 and an unequal code, or length 8 and a code below 8
abbrev pub non_compliant : ℕ → ℕ → Bool
non_compliant code length = ltb 15 code || (ltb length 8 && not (eqb code length)) || (eqb length 8 && ltb code 8)

-- refusals 2 and 3 in this order, 3 where the code is wrong; what is accepted makes 13 bytes
abbrev pub length_and_code : Bool → Bool → ℕ → ℕ → Said ℕ
length_and_code wrong_code remote code length =
    cond (invalid_length remote length) (refuses 2 ((length % 256) ∷ [])) (cond wrong_code (refuses 3 ((code % 256) ∷ [])) (gives 13))

-- and refusal 1 before them
abbrev pub in_order : Bool → Bool → ℕ → Bool → ℕ → ℕ → Said ℕ
in_order wrong_code format id remote code length =
    cond (not (leb id (limit_of format))) (refuses 1 []) (length_and_code wrong_code remote code length)

-- by format, identifier, remote request, code and data length
unfoldable pub judge_of : Bool → ℕ → Bool → ℕ → ℕ → Said ℕ
judge_of format id remote code length = in_order (non_compliant code length) format id remote code length

abbrev pub judged : Frame → Said ℕ
judged f = judge_of f.extended f.id f.remote f.code (length f.payload)

-- the answer, and the 13 bytes beside it: zeros after a refusal
abbrev pub answering : Said ℕ → Frame → Said ℕ × List ℕ
answering said f = (said, cond (accepted said) (buffer_of f) (replicate 13 0))

unfoldable pub build_of : Frame → Said ℕ × List ℕ
build_of f = answering (judged f) f

-- ---- every way of building, told by one number: the largest code that a remote frame may have
-- a remote frame's code above that; a data frame's code as above
abbrev pub non_compliant_by : ℕ → Bool → ℕ → ℕ → Bool
non_compliant_by most remote code length = cond remote (ltb most code) (non_compliant code length)

unfoldable pub judge_by : ℕ → Bool → ℕ → Bool → ℕ → ℕ → Said ℕ
judge_by most format id remote code length = in_order (non_compliant_by most remote code length) format id remote code length

abbrev pub judged_by : ℕ → Frame → Said ℕ
judged_by most f = judge_by most f.extended f.id f.remote f.code (length f.payload)

unfoldable pub build_by : ℕ → Frame → Said ℕ × List ℕ
build_by most f = answering (judged_by most f) f

-- ---- the two ways that there are
abbrev pub most_of : Way → ℕ
most_of Rust = 0
most_of Iso = 8

abbrev pub build_in : Way → Frame → Said ℕ × List ℕ
build_in Rust f = build_of f
build_in Iso f = build_by (most_of Iso) f

-- a frame that can be built: one of the ways accepts it
abbrev pub Buildable : Frame → Type 0
Buildable f = (way : Way) × ((build_in way f).0 ≡ gives 13)

-- a judgement, and what building answers by it: 13 bytes, or zeros beside a refusal
abbrev pub building_said : Result ⊤ Refusal → Said ℕ
building_said = answer_said (λ nothing. 13)

abbrev pub built_said : Result (List ℕ) Refusal → Said ℕ × List ℕ
built_said = bytes_said 13

-- a lent buffer after building: the frame, or all as it was
abbrev pub built_over : Said ℕ × List ℕ → List ℕ → List ℕ
built_over a frame = cond (accepted a.0) a.1 frame

-- the frame that a caller asks for
abbrev pub asked : Id → Bool → Bool → ℕ → List ℕ → Frame
asked id remote own code payload =
    record { extended = is_extended id; remote = remote; own = own; code = code; id = raw_of id; payload = payload }

-- a data frame, whose code is its length
abbrev pub asked_data : Id → Bool → List ℕ → Frame
asked_data id own payload = asked id false own (length payload) payload
