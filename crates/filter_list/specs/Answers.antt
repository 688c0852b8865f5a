-- What is answered to a list: the refusal that is due, else how many identifiers get through, and the registers beside it; and the pattern's buffer.
-- Source: request #102: refusals 15 for an empty list, then 1 with the index of the first too-large entry, then 6; two to the number of free positions,
-- read off the mask register as a count of ones among the identifier positions.
use Rattle.std.specs.Prelude.{ℕ, suc, ◌+◌, ◌^◌, Bool, cond, List, [], ◌∷◌, eqb, ltb, leb, length, get_or, replicate, Option, Some, None, Result, Ok, Err}
use Rattle.laws.specs.Bits.{bit_at}
use Rattle.laws.specs.Said.{Said, refuses, gives}
use Rattle.laws.specs.Laid.{written}
use Rattle.refusals.specs.declared.Refusal.{Refusal}
use Rattle.refusals.specs.Table.{answer_said}
use Rattle.identifiers.specs.Limits.{width_of, limit_of}
use Rattle.filter_registers.specs.Registers.{mask_in}
use Rattle.filter_compilers.specs.Table.{fields_of}
use Rattle.filter_compilers.specs.Answers.{answered, compile_of}
use Rattle.filter_list.specs.Pattern.{pattern_of, single_of, with_identifier}
use Rattle.filter_list.specs.declared.Listed.{Listed}

-- the index of the first entry above a limit, or the length
unfoldable pub first_above : ℕ → List ℕ → ℕ
first_above limit [] = 0
first_above limit (n ∷ list) = cond (leb n limit) (suc (first_above limit list)) 0

-- that index, where an entry is above
abbrev pub above_in : ℕ → List ℕ → Option ℕ
above_in limit list = cond (ltb (first_above limit list) (length list)) (Some (first_above limit list)) None

-- the registers that the compiler makes of an identifier pattern
unfoldable pub registers_for : Bool → List ℕ → List ℕ
registers_for extended pattern = (compile_of (single_of extended) (with_identifier extended pattern)).1

-- the register positions of the identifier
abbrev pub id_positions : Bool → List ℕ
id_positions extended = get_or (fields_of (single_of extended)) 0 []

-- the ones of a word among these positions
abbrev pub ones_among : List ℕ → ℕ → ℕ
ones_among [] w = 0
ones_among (p ∷ ps) w = bit_at w p + ones_among ps w

-- two to the number of free positions
unfoldable pub through_of : Bool → List ℕ → ℕ
through_of extended registers = 2 ^ ones_among (id_positions extended) (mask_in registers)

abbrev pub registers_of_list : Bool → List ℕ → List ℕ
registers_of_list extended list = registers_for extended (pattern_of (width_of extended) list)

-- by format, list and the length of the pattern's buffer
unfoldable pub listing_of : Bool → List ℕ → ℕ → Said ℕ
listing_of extended list room =
    cond (eqb (length list) 0) (refuses 15 [])
    (cond (ltb (first_above (limit_of extended) list) (length list)) (refuses 1 (first_above (limit_of extended) list ∷ []))
    (cond (ltb room (width_of extended)) (refuses 6 (width_of extended ∷ [])) (gives (through_of extended (registers_of_list extended list)))))

-- the answer, and the registers beside it: zeros after a refusal
abbrev pub listed_of : Bool → List ℕ → ℕ → Said ℕ × List ℕ
listed_of extended list room = answered (listing_of extended list room) (registers_of_list extended list)

-- the buffer at exit: the pattern in its front, or all as it was
abbrev pub leaves : Bool → List ℕ → List ℕ → List ℕ
leaves extended list out = written (listing_of extended list (length out)) (pattern_of (width_of extended) list) out

abbrev pub listing_said : Result Listed Refusal → Said ℕ
listing_said = answer_said (λ listed. listed.through)

-- the registers beside the answer: zeros after a refusal
abbrev pub beside : Result Listed Refusal → List ℕ
beside (Ok listed) = listed.registers
beside (Err f) = replicate 8 0

abbrev pub listed_said : Result Listed Refusal → Said ℕ × List ℕ
listed_said r = (listing_said r, beside r)
