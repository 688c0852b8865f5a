-- Request #103, sentence by sentence, for a standard frame: without data, which a remote frame never has, it is judged on identifier and RTR alone; with one
-- byte a single filter compares one byte; with two or more, two; and with one or more the first half of a dual filter compares both nibbles. What stands at a
-- place of the data is a byte of the frame where it is below the data length. Assumes nothing.
use Prim.Native.Nat.{ℕ, ◌≤◌, ◌<◌}
use mathlib.Core.Path.{◌≡◌, refl, sym, ap, ap₂, ◌∙◌}
use mathlib.Core.Bool.{Bool, true, false, ◌&&◌, ◌||◌}
use mathlib.Core.List.{List, ◌++◌}
use lib.ListN.{length, get_or, drop}
use lib.Seq.{get_or-take, get_or-drop}
use Rattle.laws.specs.Row.{bit}
use Rattle.filter_compilers.specs.Table.{fields_of, run}
use Rattle.filter_compilers.specs.Meaning.{characters_in, patterns_in}
use Rattle.filter_types.specs.Words.{written}
use Rattle.frame_info.specs.Info.{extended_of, remote_of, data_length_of, data_offset_of}
use Rattle.frame_reading.specs.Buffer.{id_of, data_of}
use Rattle.filter_matcher.specs.Fields.{row_for, byte_of, numbers_in, shown_bits, compared_fields, first_fields}
use Rattle.filter_matcher.proofs.Halves.{two_bytes, one_byte}
use Rattle.filter_matcher.specs.Match.{all_fit, fits_either, fits_filter, accepts_of}
use Rattle.filter_matcher.proofs.Fits.{all_split}

-- a byte that the frame has is what stands at its place of the data
pub byte-there : (frame : List ℕ) (i : ℕ) → i < data_length_of frame → byte_of frame i ≡ get_or (data_of frame) i 0
unfolding data_of
byte-there frame i h = sym (get_or-take (data_length_of frame) (drop (data_offset_of frame) frame) i 0 h ∙ get_or-drop (data_offset_of frame) frame i 0)

-- the row of the frame's own format
pub own_row : (dual : Bool) (registers frame : List ℕ) → extended_of frame ≡ false
    → accepts_of dual registers frame ≡ fits_filter dual false (patterns_in registers (fields_of (row_for dual false))) frame
unfolding accepts_of
own_row dual registers frame standard = ap (λ (e : Bool). fits_filter dual e (patterns_in registers (fields_of (row_for dual e))) frame) standard

-- the same, where so many fields are compared
compared-row : (dual : Bool) (registers frame : List ℕ) (n : ℕ) → extended_of frame ≡ false → compared_fields (row_for dual false) (data_length_of frame) ≡ n
    → accepts_of dual registers frame
    ≡ fits_either dual n (first_fields (row_for dual false)) (patterns_in registers (fields_of (row_for dual false))) (shown_bits (row_for dual false) frame)
compared-row dual registers frame n standard e =
    own_row dual registers frame standard
    ∙ ap (λ (k : ℕ). fits_either dual k (first_fields (row_for dual false)) (patterns_in registers (fields_of (row_for dual false))) (shown_bits (row_for dual false) frame)) e

-- ---- what the registers ask for at a field's positions fits a number
abbrev pub fits_field : List ℕ → List ℕ → ℕ → Bool
fits_field registers positions number = all_fit (characters_in registers positions) (written (length positions) number)

or-none : (b : Bool) → (b || false) ≡ b
or-none true = refl
or-none false = refl

module _ (registers frame : List ℕ) where
  -- identifier and RTR of the first half (of all, for a single filter) at 31..21 and 20, and of the second at 15..5 and 4
  abbrev pub id₁ : Bool
  id₁ = fits_field registers (run 21 11) (id_of frame)

  abbrev pub rtr₁ : Bool
  rtr₁ = fits_field registers (run 20 1) (bit (remote_of frame))

  abbrev pub id₂ : Bool
  id₂ = fits_field registers (run 5 11) (id_of frame)

  abbrev pub rtr₂ : Bool
  rtr₂ = fits_field registers (run 4 1) (bit (remote_of frame))

  -- a data byte at its positions; the nibbles of a dual filter's are apart
  abbrev pub first_byte : Bool
  first_byte = fits_field registers (run 8 8) (byte_of frame 0)

  abbrev pub second-byte : Bool
  second-byte = fits_field registers (run 0 8) (byte_of frame 1)

  abbrev pub nibbles : Bool
  nibbles = fits_field registers (run 16 4 ++ run 0 4) (byte_of frame 0)

  front : (rest : List ℕ) (shown : List ℕ)
      → all_fit (characters_in registers (run 21 11) ++ (characters_in registers (run 20 1) ++ rest)) (written 11 (id_of frame) ++ (written 1 (bit (remote_of frame)) ++ shown))
      ≡ (id₁ && (rtr₁ && all_fit rest shown))
  front rest shown =
      all_split (characters_in registers (run 21 11)) (characters_in registers (run 20 1) ++ rest) (written 11 (id_of frame)) (written 1 (bit (remote_of frame)) ++ shown) refl
      ∙ ap (λ (b : Bool). id₁ && b) (all_split (characters_in registers (run 20 1)) rest (written 1 (bit (remote_of frame))) shown refl)

  front-alone : all_fit (characters_in registers (run 21 11) ++ characters_in registers (run 20 1)) (written 11 (id_of frame) ++ written 1 (bit (remote_of frame))) ≡ (id₁ && rtr₁)
  front-alone = all_split (characters_in registers (run 21 11)) (characters_in registers (run 20 1)) (written 11 (id_of frame)) (written 1 (bit (remote_of frame))) refl

  second-half : all_fit (characters_in registers (run 5 11) ++ characters_in registers (run 4 1)) (written 11 (id_of frame) ++ written 1 (bit (remote_of frame))) ≡ (id₂ && rtr₂)
  second-half = all_split (characters_in registers (run 5 11)) (characters_in registers (run 4 1)) (written 11 (id_of frame)) (written 1 (bit (remote_of frame))) refl

  module _ (standard : extended_of frame ≡ false) where
    -- a remote or empty frame
    pub without-data : data_length_of frame ≡ 0 → (dual : Bool) → accepts_of dual registers frame ≡ ((id₁ && rtr₁) || (dual && (id₂ && rtr₂)))
    unfolding fits_either fields_of numbers_in
    without-data none false = compared-row false registers frame 2 standard (ap (compared_fields (row_for false false)) none) ∙ ap (λ (b : Bool). b || false) front-alone
    without-data none true =
        compared-row true registers frame 2 standard (ap (compared_fields (row_for true false)) none) ∙ ap₂ (λ (a b : Bool). a || b) front-alone second-half

    -- one byte, single
    pub single-one-byte : data_length_of frame ≡ 1 → accepts_of false registers frame ≡ (id₁ && (rtr₁ && first_byte))
    unfolding fits_either fields_of numbers_in
    single-one-byte one =
        compared-row false registers frame 3 standard (ap (compared_fields (row_for false false)) one)
        ∙ or-none _
        ∙ front (characters_in registers (run 8 8)) (written 8 (byte_of frame 0))

    -- two bytes or more, single
    pub single-two-bytes : 2 ≤ data_length_of frame → accepts_of false registers frame ≡ (id₁ && (rtr₁ && (first_byte && second-byte)))
    unfolding fits_either fields_of numbers_in
    single-two-bytes more =
        compared-row false registers frame 4 standard (two_bytes (data_length_of frame) more)
        ∙ or-none _
        ∙ front (characters_in registers (run 8 8) ++ characters_in registers (run 0 8)) (written 8 (byte_of frame 0) ++ written 8 (byte_of frame 1))
        ∙ ap (λ (b : Bool). id₁ && (rtr₁ && b)) (all_split (characters_in registers (run 8 8)) (characters_in registers (run 0 8)) (written 8 (byte_of frame 0)) (written 8 (byte_of frame 1)) refl)

    -- one byte or more, dual: both nibbles, in the first half only
    pub dual-with-data : 1 ≤ data_length_of frame → accepts_of true registers frame ≡ ((id₁ && (rtr₁ && nibbles)) || (id₂ && rtr₂))
    unfolding fits_either fields_of numbers_in
    dual-with-data some =
        compared-row true registers frame 3 standard (one_byte (data_length_of frame) some)
        ∙ ap₂ (λ (a b : Bool). a || b) (front (characters_in registers (run 16 4 ++ run 0 4)) (written 8 (byte_of frame 0))) second-half
