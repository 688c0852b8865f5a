-- From a filter's patterns to the frames that it lets through: registers that were made from patterns give the patterns back, so the matcher asks a
-- frame of the filter's own format for just these characters. Assumes nothing.
use Prim.Native.Nat.{ℕ}
use mathlib.Core.Path.{◌≡◌, refl, ap, ◌∙◌}
use mathlib.Core.Bool.{Bool, true, false}
use mathlib.Core.List.{List, [], ◌∷◌}
use lib.ListN.{replicate}
use Rattle.laws.specs.Said.{gives}
use Rattle.filter_characters.specs.Characters.{bad_at}
use Rattle.filter_compilers.specs.Table.{single_standard, fields_of}
use Rattle.filter_compilers.specs.Words.{one, care, word_of}
use Rattle.filter_compilers.specs.Meaning.{patterns_in}
use Rattle.filter_compilers.specs.Answers.{compile_of}
use Rattle.filter_compilers.proofs.Back.{patterns-back}
use Rattle.frame_info.specs.Info.{extended_of, data_length_of}
use Rattle.frame_reading.specs.Buffer.{data_of}
use Rattle.filter_matcher.specs.Fields.{row_for, numbers_in}
use Rattle.filter_matcher.specs.Match.{all_fit, fits_either, fits_filter, accepts_of}

-- for each of the four compilers and every frame of its format: accepted exactly if what the frame shows fits the characters
pub end_to_end : (dual format : Bool) (patterns : List (List ℕ)) (frame : List ℕ) → (compile_of (row_for dual format) patterns).0 ≡ gives 8
    → extended_of frame ≡ format → accepts_of dual (compile_of (row_for dual format) patterns).1 frame ≡ fits_filter dual format patterns frame
unfolding accepts_of
end_to_end dual format patterns frame made own =
    ap (λ (f : Bool). fits_filter dual f (patterns_in (compile_of (row_for dual format) patterns).1 (fields_of (row_for dual f))) frame) own
    ∙ ap (λ (asked : List (List ℕ)). fits_filter dual format asked frame) (patterns-back (row_for dual format) patterns made)

-- ---- the Rust's warning: a filter for standard identifiers also lets extended frames through
abbrev pub only-0x123 : List (List ℕ)
only-0x123 = (48 ∷ 48 ∷ 49 ∷ 48 ∷ 48 ∷ 49 ∷ 48 ∷ 48 ∷ 48 ∷ 49 ∷ 49 ∷ []) ∷ (120 ∷ []) ∷ replicate 8 120 ∷ replicate 8 120 ∷ []

-- identifier 0x048C0000, whose top 11 bits are 0x123; no data
abbrev pub extended-frame : List ℕ
extended-frame = 0x80 ∷ 0x24 ∷ 0x60 ∷ replicate 10 0

pub warning : (extended_of extended-frame ≡ true)
    × ((compile_of single_standard only-0x123).0 ≡ gives 8)
    × (accepts_of false (compile_of single_standard only-0x123).1 extended-frame ≡ true)
unfolding accepts_of compile_of fields_of word_of one care bad_at numbers_in fits_either all_fit data_of data_length_of
warning = (refl, refl, refl)
