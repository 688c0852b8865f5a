-- What some files' words are, by computation. Assumes nothing.
use mathlib.Core.Path.{◌≡◌, refl}
use mathlib.Core.List.{[], ◌∷◌}
use lib.ListN.{replicate}
use Rattle.laws.specs.Ascii.{ascii}
use Rattle.text.specs.Decimal.{digits_of, decimal}
use Rattle.file_reading.specs.Reader.{frames_from, frames_at, filters_from, read_of}
use Rattle.file_words.specs.Words.{around, count_words, refusal_words, words_of}

-- a text that begins with `#`; a filter of kind 2; an empty file, and one that ends in its frame count; 4,097 frames; a byte too many; a file that is read
pub cases :
    (words_of (35 ∷ 32 ∷ []) ≡ ascii "35 filters announced, at most 16; is this a frame file?\n")
    × (words_of (1 ∷ 2 ∷ []) ≡ ascii "the filter at byte 1 is of kind 2; a kind is 0 (single) or 1 (dual)\n")
    × (words_of [] ≡ ascii "the file's length is 0, too short for the field that begins at byte 0\n")
    × (words_of (1 ∷ replicate 10 0) ≡ ascii "the file's length is 11, too short for the field that begins at byte 10\n")
    × (words_of (0 ∷ 0x10 ∷ 0x01 ∷ []) ≡ ascii "4097 frames announced, at most 4096\n")
    × (words_of (0 ∷ 0 ∷ 1 ∷ replicate 14 0) ≡ ascii "by its counts the file has 16 bytes, but more follow\n")
    × (words_of (0 ∷ 0 ∷ 0 ∷ []) ≡ [])
unfolding digits_of decimal frames_from frames_at filters_from read_of around count_words refusal_words words_of
cases = (refl, refl, refl, refl, refl, refl, refl)
