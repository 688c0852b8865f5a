-- The outline's numbers: for each, what the definitions answer and what the outline says.
-- Source: the outline, "Numbers to check"; request #103 for P11.
use Rattle.std.specs.Prelude.{ℕ, ◌-◌, Bool, true, false, cond, List, [], ◌∷◌, ◌++◌, replicate}
use Rattle.laws.specs.Said.{Said, refuses, gives, accepted}
use Rattle.laws.specs.Tabulate.{part}
use Rattle.identifiers.specs.Answers.{base_of}
use Rattle.filter_compilers.specs.Table.{single_standard, dual_standard, dual_extended}
use Rattle.filter_compilers.specs.Answers.{compile_of}
use Rattle.filter_types.specs.Answers.{code_mask_of}
use Rattle.frame_reading.specs.Buffer.{Frame, data_of}
use Rattle.frame_building.specs.Buffer.{buffer_of}
use Rattle.frame_building.specs.Building.{build_of, judged}
use Rattle.filter_matcher.specs.Words.{match_of}
use Rattle.box_theorem.specs.P12.{box_before, drain_did, box_after, queued_in, wholes_in, lost_by}
use Rattle.abi_answers.specs.Answers.{flag_said}

-- an answer, and bytes that it comes with
abbrev pub Answered : Type 0
Answered = Said ℕ × List ℕ

pub record Row : Type 0 where
  pub definition : Answered
  pub outline : Answered

abbrev row : Answered → Answered → Row
row d o = record { definition = d; outline = o }

-- what follows from the bytes of an answer that was accepted; a refusal stays
abbrev and_then : Answered → (List ℕ → Answered) → Answered
and_then a next = cond (accepted a.0) (next a.1) a

abbrev frame : Bool → ℕ → Bool → ℕ → List ℕ → Frame
frame extended id remote code payload =
    record { extended = extended; remote = remote; own = false; code = code; id = id; payload = payload }

abbrev standard : ℕ → ℕ → List ℕ → Frame
standard id code payload = frame false id false code payload

abbrev zeros : ℕ → List ℕ
zeros n = replicate n 0

abbrev eight : List ℕ
eight = 1 ∷ 2 ∷ 3 ∷ 4 ∷ 5 ∷ 6 ∷ 7 ∷ 8 ∷ []

-- the pattern characters `0`, `1` and, n times, `x`
abbrev zero : ℕ
zero = 48

abbrev one : ℕ
one = 49

abbrev spare : ℕ → List ℕ
spare n = replicate n 120

-- the single standard filter of P11, whose first byte is `00000001`
abbrev first_byte_is_one : Answered
first_byte_is_one = compile_of single_standard (spare 11 ∷ spare 1 ∷ (replicate 7 zero ++ one ∷ []) ∷ spare 8 ∷ [])

-- whether a filter that was compiled accepts a frame that was built
abbrev judged_by : Answered → Frame → Answered
judged_by filter f = and_then filter (λ registers. and_then (build_of f) (λ buffer. (flag_said (match_of 0 registers buffer), [])))

abbrev pub value_rows : List Row
value_rows =
    -- P1
    row (build_of (standard 0x7FF 0 [])) (gives 13, 0x00 ∷ 0xFF ∷ 0xE0 ∷ zeros 10)
    ∷ row (build_of (standard 0x800 0 [])) (refuses 1 [], zeros 13)
    -- P2
    ∷ row (and_then (build_of (frame true 0x1234_5678 false 0 [])) (λ buffer. (gives 4, part buffer 1 4))) (gives 4, 0x91 ∷ 0xA2 ∷ 0xB3 ∷ 0xC0 ∷ [])
    ∷ row (base_of 0x1234_5678, []) (gives 0x48D, [])
    -- P3
    ∷ row (judged (standard 1 15 eight), data_of (buffer_of (standard 1 15 eight))) (gives 13, eight)
    ∷ row (build_of (standard 1 16 eight)) (refuses 3 (16 ∷ []), zeros 13)
    -- P4
    ∷ row (build_of (standard 1 8 (replicate 7 1))) (refuses 3 (8 ∷ []), zeros 13)
    -- P5
    ∷ row (build_of (standard 1 99 (replicate 264 1))) (refuses 2 (8 ∷ []), zeros 13)
    -- P6
    ∷ row (build_of (frame false 1 true 1 [])) (refuses 3 (1 ∷ []), zeros 13)
    -- P7
    ∷ row (compile_of single_standard ((spare 10 ++ zero ∷ []) ∷ spare 1 ∷ spare 8 ∷ spare 8 ∷ []))
    (gives 8, 0 ∷ 0 ∷ 0 ∷ 0 ∷ 0xFF ∷ 0xDF ∷ 0xFF ∷ 0xFF ∷ [])
    -- P8
    ∷ row (compile_of dual_extended ((spare 9 ++ (replicate 4 zero ++ spare 3)) ∷ (spare 9 ++ (replicate 4 one ++ spare 3)) ∷ []))
    (gives 8, 0 ∷ 0 ∷ 0 ∷ 0x78 ∷ 0xFF ∷ 0x87 ∷ 0xFF ∷ 0x87 ∷ [])
    -- P9
    ∷ row (compile_of dual_standard (spare 11 ∷ spare 1 ∷ (one ∷ zero ∷ one ∷ zero ∷ zero ∷ one ∷ zero ∷ one ∷ []) ∷ spare 11 ∷ spare 1 ∷ []))
    (gives 8, 0 ∷ 0x0A ∷ 0 ∷ 0x05 ∷ 0xFF ∷ 0xF0 ∷ 0xFF ∷ 0xF0 ∷ [])
    -- P10
    ∷ row (code_mask_of single_standard (0x7FF ∷ 0 ∷ 0 ∷ 0 ∷ []) (1 ∷ 0 ∷ 0 ∷ 0 ∷ []))
    (gives 8, 0xFF ∷ 0xE0 ∷ 0 ∷ 0 ∷ 0xFF ∷ 0xDF ∷ 0xFF ∷ 0xFF ∷ [])
    ∷ row (compile_of single_standard ((spare 10 ++ one ∷ []) ∷ spare 1 ∷ spare 8 ∷ spare 8 ∷ []))
    (gives 8, 0 ∷ 0x20 ∷ 0 ∷ 0 ∷ 0xFF ∷ 0xDF ∷ 0xFF ∷ 0xFF ∷ [])
    -- P11: the filter is compiled, and the frame without data is accepted
    ∷ row first_byte_is_one (gives 8, 0 ∷ 0 ∷ 1 ∷ 0 ∷ 0xFF ∷ 0xFF ∷ 0 ∷ 0xFF ∷ [])
    ∷ row (judged_by first_byte_is_one (standard 1 0 [])) (gives 1, [])
    -- and a frame whose one byte is another, not
    ∷ row (judged_by first_byte_is_one (standard 1 1 (0 ∷ []))) (gives 0, [])
    ∷ []

-- P12: the box before the drain (how many are queued, and a 1 for each whole entry), and after it (how many are queued; stored, lost, left)
abbrev pub box_rows : List Row
box_rows =
    row (gives (queued_in box_before), wholes_in box_before) (gives 31, 1 ∷ 1 ∷ 1 ∷ [])
    ∷ row (gives (queued_in box_after), (queued_in box_after - queued_in box_before) ∷ lost_by drain_did ∷ box_after.fifo.count ∷ []) (gives 32, 1 ∷ 1 ∷ 1 ∷ [])
    ∷ []

abbrev pub rows : List Row
rows = value_rows ++ box_rows
