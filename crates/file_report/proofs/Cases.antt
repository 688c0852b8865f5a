-- The outline's whole case, by computation. Assumes nothing.
use Prim.Native.Nat.{ℕ}
use mathlib.Core.Path.{◌≡◌, refl}
use mathlib.Core.List.{List, ◌∷◌, ◌++◌}
use lib.ListN.{replicate}
use Rattle.laws.specs.Ascii.{ascii}
use Rattle.filter_compilers.specs.Table.{fields_of}
use Rattle.frame_info.specs.Info.{data_length_of}
use Rattle.frame_reading.specs.Buffer.{data_of}
use Rattle.text.specs.Decimal.{digits_of, decimal}
use Rattle.file_reading.specs.Reader.{frames_from, frames_at, filters_from, read_of}
use Rattle.filter_matcher.specs.Fields.{numbers_in}
use Rattle.filter_matcher.specs.Match.{all_fit, fits_either, accepts_of}
use Rattle.filter_matcher.specs.Words.{match_of}
use Rattle.file_report.specs.Text.{marks, marks_of, any, line_of, lines_from, count_of, good_text, bad_text, text_of}

abbrev pub whole_case : List ℕ
whole_case =
    1 ∷ 0 ∷ 0 ∷ 0 ∷ 0 ∷ 0 ∷ 0xFF ∷ 0xDF ∷ 0xFF ∷ 0xFF ∷ 0 ∷ 2
    ∷ (0x01 ∷ 0x24 ∷ 0x80 ∷ 0xAB ∷ (replicate 9 0 ++ (0x00 ∷ 0xFF ∷ 0xE0 ∷ replicate 10 0)))

pub whole-case : text_of whole_case ≡ ascii "0 1\n1 0\naccepted 1\n"
unfolding frames_from frames_at filters_from read_of fields_of data_length_of data_of numbers_in all_fit fits_either accepts_of match_of digits_of decimal marks marks_of any line_of lines_from count_of good_text bad_text text_of
whole-case = refl
