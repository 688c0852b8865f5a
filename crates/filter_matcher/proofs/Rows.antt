-- The sums that the code makes of a frame's numbers are the words with these numbers at their rows' positions, and its constants name the positions that are
-- compared. Assumes nothing.
use Prim.Native.Nat.{ℕ, ◌+◌, ◌*◌, ◌/◌, ◌%◌, ◌^◌, ◌≤◌, ◌<◌, min}
use mathlib.Core.Path.{◌≡◌, refl, sym, ap, ap₂, subst, ◌∙◌}
use mathlib.Core.Bool.{Bool, true, false}
use mathlib.Core.List.{List}
use lib.ListN.{get_or}
use native.Mathlib.Omega.{arith}
use Rattle.laws.specs.Row.{bit}
use Rattle.identifiers.specs.Limits.{limit_of, is_extended, raw_of}
use Rattle.identifiers.specs.declared.Id.{Id}
use Rattle.filter_compilers.specs.Table.{single_standard, dual_standard, fields_of}
use Rattle.filter_compilers.specs.Words.{one, word_of}
use Rattle.filter_types.proofs.Laid.{laid-single-standard, laid-single-extended, laid-dual-standard, laid-dual-extended}
use Rattle.frame_info.specs.Info.{remote_of, code_of, data_length_of}
use Rattle.frame_reading.specs.Reading.{identifier_of, id_said}
use Rattle.filter_matcher.specs.Fields.{byte_of, numbers_in}
use Rattle.filter_matcher.specs.Shown.{ones_at, first_named, show_by, show_of}
use Rattle.filter_matcher.specs.declared.shown.Shown.{Shown}
use Rattle.filter_matcher.proofs.Halves.{two_bytes, one_byte}

-- ---- the positions that a standard frame names, by its data length
pub single-none : (bytes : ℕ) → bytes ≡ 0 → 0xFFF0_0000 ≡ first_named single_standard bytes
unfolding ones_at fields_of word_of one
single-none bytes e = rw e

pub single-one : (bytes : ℕ) → bytes ≡ 1 → 0xFFF0_FF00 ≡ first_named single_standard bytes
unfolding ones_at fields_of word_of one
single-one bytes e = rw e

pub single-two : (bytes : ℕ) → (bytes ≡ 0 → ⊥) → (bytes ≡ 1 → ⊥) → 0xFFF0_FFFF ≡ first_named single_standard bytes
unfolding ones_at fields_of word_of one
single-two bytes some more = rw (two_bytes bytes (omega arith))

pub dual-none : (bytes : ℕ) → bytes ≡ 0 → 0xFFF0_0000 ≡ first_named dual_standard bytes
unfolding ones_at fields_of word_of one
dual-none bytes e = rw e

pub dual-some : (bytes : ℕ) → 1 ≤ bytes → 0xFFFF_000F ≡ first_named dual_standard bytes
unfolding ones_at fields_of word_of one
dual-some bytes some = rw (one_byte bytes some)

-- ---- what is shown, by its words and what they name
abbrev pub standard_shown : ℕ → ℕ → ℕ → ℕ → Shown
standard_shown named first single dual = record { single = single; named = named; dual = dual; first = first; second = 0x0000_FFF0 }

abbrev pub extended_shown : ℕ → ℕ → Shown
extended_shown single dual = record { single = single; named = 0xFFFF_FFFC; dual = dual; first = 0xFFFF_0000; second = 0x0000_FFFF }

pub standard-rows : (id rtr bytes byte next named first single dual : ℕ) → id ≤ limit_of false → rtr < 2 → byte < 256 → next < 256
    → named ≡ first_named single_standard bytes → first ≡ first_named dual_standard bytes
    → single ≡ id * 2 ^ 21 + (rtr * 2 ^ 20 + (byte * 2 ^ 8 + next))
    → dual ≡ id * 2 ^ 21 + (rtr * 2 ^ 20 + byte / 16 * 2 ^ 16) + (id * 2 ^ 5 + (rtr * 2 ^ 4 + byte % 16))
    → standard_shown named first single dual ≡ show_by false id rtr bytes byte next
unfolding show_by numbers_in ones_at fields_of word_of one
standard-rows id rtr bytes byte next named first single dual hi hr hb hn en ef es ed =
    ap₂ (λ (n f : ℕ). standard_shown n f single dual) en ef
    ∙ ap₂ (standard_shown (first_named single_standard bytes) (first_named dual_standard bytes))
    (es ∙ sym (laid-single-standard id rtr byte next (omega arith) hr hb hn))
    (ed ∙ sym (laid-dual-standard id rtr byte id rtr (omega arith) hr hb (omega arith) hr))

pub extended-rows : (id rtr bytes byte next single dual : ℕ) → id ≤ limit_of true → rtr < 2
    → single ≡ id * 2 ^ 3 + rtr * 2 ^ 2 → dual ≡ id / 2 ^ 13 * 2 ^ 16 + id / 2 ^ 13
    → extended_shown single dual ≡ show_by true id rtr bytes byte next
unfolding show_by numbers_in ones_at fields_of word_of one
extended-rows id rtr bytes byte next single dual hi hr es ed =
    ap₂ extended_shown
    (es ∙ sym (laid-single-extended id rtr (omega arith) hr))
    (ed ∙ sym (laid-dual-extended (id / 2 ^ 13) (id / 2 ^ 13) (omega arith) (omega arith)))

-- an extended frame shows none of its data, and names the same positions whatever data it has
pub no-data : (id rtr bytes byte next : ℕ) → show_by true id rtr 0 0 0 ≡ show_by true id rtr bytes byte next
unfolding show_by numbers_in
no-data id rtr bytes byte next = refl

-- ---- how many data bytes there are, as far as two: a remote frame has none, whatever its code
pub remote-none : (frame : List ℕ) → remote_of frame ≡ true → data_length_of frame ≡ 0
unfolding data_length_of
remote-none frame remote = rw remote

pub code-bytes : (frame : List ℕ) → remote_of frame ≡ false → min (code_of frame) 2 ≡ min (data_length_of frame) 2
unfolding data_length_of
code-bytes frame here = rw here (least (code_of frame))
  where
    least : (code : ℕ) → min code 2 ≡ min (min code 8) 2
    least code = omega arith

pub same_bytes : (id rtr bytes has byte next : ℕ) → min bytes 2 ≡ min has 2 → show_by false id rtr bytes byte next ≡ show_by false id rtr has byte next
unfolding show_by
same_bytes id rtr bytes has byte next e =
    let once : min bytes 1 ≡ min has 1 = omega (arith, e) in
    rw (e, once)

-- what a frame shows, by its parts
pub shown_by : (frame : List ℕ) (format : Bool) (id rtr bytes byte next : ℕ) → (format, id) ≡ identifier_of frame → rtr ≡ bit (remote_of frame)
    → show_by format id rtr bytes byte next ≡ show_by format id rtr (data_length_of frame) (byte_of frame 0) (byte_of frame 1)
    → show_by format id rtr bytes byte next ≡ show_of frame
unfolding show_of identifier_of
shown_by frame format id rtr bytes byte next ei er ed =
    ed ∙ ap₂ (λ (i : Bool × ℕ) (r : ℕ). show_by i.0 i.1 r (data_length_of frame) (byte_of frame 0) (byte_of frame 1)) ei er

-- a standard frame's data start at byte 3
pub standard-shown : (frame : List ℕ) (id rtr bytes byte next : ℕ) → (false, id) ≡ identifier_of frame → rtr ≡ bit (remote_of frame)
    → min bytes 2 ≡ min (data_length_of frame) 2 → byte ≡ get_or frame 3 0 → next ≡ get_or frame 4 0 → show_by false id rtr bytes byte next ≡ show_of frame
unfolding identifier_of
standard-shown frame id rtr bytes byte next ei er eb first second =
    shown_by frame false id rtr bytes byte next ei er
    (same_bytes id rtr bytes (data_length_of frame) byte next eb ∙ rw (sym (ap (λ (i : Bool × ℕ). i.0) ei), first, second))

-- an identifier that was read, as the case that it is
pub read_as : (frame : List ℕ) (r i : Id) → r ≡ i → (id_said r ≡ identifier_of frame) × (raw_of r ≤ limit_of (is_extended r))
    → (id_said i ≡ identifier_of frame) × (raw_of i ≤ limit_of (is_extended i))
read_as frame r i e = subst (λ (x : Id). (id_said x ≡ identifier_of frame) × (raw_of x ≤ limit_of (is_extended x))) e
