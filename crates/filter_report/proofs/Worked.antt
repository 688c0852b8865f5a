-- What some lines and some texts come to, by computation. Assumes nothing.
use mathlib.Core.Path.{◌≡◌, refl}
use mathlib.Core.Bool.{true, false}
use mathlib.Core.List.{[], ◌∷◌}
use Rattle.std.specs.Prelude.{Some, None, Ok, Err}
use Rattle.laws.specs.Ascii.{ascii}
use Rattle.text.specs.Decimal.{digits_of, decimal}
use Rattle.filter_report.specs.Line.{is_blank, ends, closes, unblanked, digit_of, number_from, number_of, word_of, line_of}
use Rattle.filter_report.specs.Lines.{lines_of, found_from, found_in}
use Rattle.filter_report.specs.Faults.{printed, shortened, shown_of, fault_text}
use Rattle.filter_report.specs.Text.{filter_text, text_of}
use Rattle.filter_report.specs.declared.line.Fault.TheVariants.{Above, NotANumber}

pub lines-worked :
    (line_of 0x7FF false (ascii "0x7fF") ≡ Ok (Some 0x7FF))
    × (line_of 0x7FF false (ascii " 260 # 0x104") ≡ Ok (Some 260))
    × (line_of 0x7FF false (ascii "2048") ≡ Err Above)
    × (line_of 0x7FF false (ascii "0x") ≡ Err NotANumber)
    × (line_of 0x7FF false (ascii "12 3") ≡ Err NotANumber)
    × (line_of 0x7FF false (ascii "12A") ≡ Err NotANumber)
    × (line_of 0x7FF false (ascii "123#DEADBEEF") ≡ Err NotANumber)
    × (line_of 0x7FF false (ascii "\t# none") ≡ Ok None)
unfolding is_blank ends closes unblanked digit_of number_from number_of word_of line_of
lines-worked = (refl, refl, refl, refl, refl, refl, refl, refl)

-- with `hex`
pub hex-lines-worked :
    (line_of 0x7FF true (ascii "123#DEADBEEF") ≡ Ok (Some 0x123))
    × (line_of 0x7FF true (ascii "0x123##1DE") ≡ Ok (Some 0x123))
    × (line_of 0x7FF true (ascii "12a # the pump") ≡ Ok (Some 0x12A))
    × (line_of 0x7FF true (ascii "800") ≡ Err Above)
    × (line_of 0x7FF true (ascii "#DEADBEEF") ≡ Ok None)
    × (line_of 0x7FF true (ascii "can0 123") ≡ Err NotANumber)
unfolding is_blank ends closes unblanked digit_of number_from number_of word_of line_of
hex-lines-worked = (refl, refl, refl, refl, refl, refl)

-- faults: of either way to read, and in a second line
pub texts-worked :
    (text_of false false (ascii "12A") ≡ ascii "line 1: \"12A\" is not a number (hexadecimal needs 0x, or --hex)\n")
    × (text_of false false (ascii "7\n 123#DEADBEEF\t!\n") ≡ ascii "line 2: \"123#DEADBEEF\" is not a number (hexadecimal needs 0x, or --hex)\n")
    × (text_of false true (ascii "can0") ≡ ascii "line 1: \"can0\" is not a hexadecimal number\n")
    × (text_of false true (ascii "800#00") ≡ ascii "line 1: \"800#00\" is above 0x7FF, the largest standard identifier\n")
    × (text_of true false (ascii "1234567890123456789012345678901234") ≡ ascii "line 1: \"12345678901234567890123456789012..\" is above 0x1FFFFFFF, the largest extended identifier\n")
unfolding is_blank ends closes unblanked digit_of number_from number_of word_of line_of lines_of found_from found_in digits_of decimal printed shortened shown_of fault_text text_of
texts-worked = (refl, refl, refl, refl, refl)

-- the same list in either way: its filter's text, whose lines WorkedLines.antt works out
pub lists-worked :
    (text_of false true (ascii "064#DEADBEEF\n068 # by hand\n") ≡ filter_text false (0x64 ∷ 0x68 ∷ []))
    × (text_of false false (ascii "0x64\n104 # 0x68\n") ≡ filter_text false (0x64 ∷ 0x68 ∷ []))
unfolding is_blank ends closes unblanked digit_of number_from number_of word_of line_of lines_of found_from found_in text_of
lists-worked = (refl, refl)
