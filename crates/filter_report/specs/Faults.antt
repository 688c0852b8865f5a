-- What is said of a line at fault: its number, what it shows, and what is wrong.
-- Source: request #102; docs/FORMATS.md, "Lists".
use Rattle.std.specs.Prelude.{ℕ, Bool, true, false, cond, List, [], ◌∷◌, ◌++◌, leb, length, take}
use Rattle.laws.specs.Ascii.{ascii}
use Rattle.text.specs.Decimal.{decimal}
use Rattle.filter_report.specs.Line.{unblanked}
use Rattle.filter_report.specs.declared.line.Fault.{Fault}
use Rattle.filter_report.specs.declared.line.Fault.TheVariants.{Above, NotANumber}

-- from a space to `~`
abbrev pub is_printable : ℕ → Bool
is_printable c = cond (leb 32 c) (leb c 126) false

-- up to the first character that is not printable
unfoldable pub printed : List ℕ → List ℕ
printed [] = []
printed (c ∷ line) = cond (is_printable c) (c ∷ printed line) []

-- at most 32 characters, and `..` where there are more
unfoldable pub shortened : List ℕ → List ℕ
shortened text = cond (leb (length text) 32) text (take 32 text ++ ascii "..")

-- a line from its first character that is not blank
unfoldable pub shown_of : List ℕ → List ℕ
shown_of line = shortened (printed (unblanked line))

abbrev pub line_text : List ℕ
line_text = ascii "line "

abbrev pub quote_text : List ℕ
quote_text = ascii ": \""

abbrev pub above_text : Bool → List ℕ
above_text false = ascii "\" is above 0x7FF, the largest standard identifier\n"
above_text true = ascii "\" is above 0x1FFFFFFF, the largest extended identifier\n"

abbrev pub wrong_text : Bool → List ℕ
wrong_text false = ascii "\" is not a number (hexadecimal needs 0x, or --hex)\n"
wrong_text true = ascii "\" is not a hexadecimal number\n"

-- by what is wrong
abbrev pub fault_said : Bool → Bool → Fault → List ℕ
fault_said extended hex Above = above_text extended
fault_said extended hex NotANumber = wrong_text hex

unfoldable pub fault_text : ℕ → List ℕ → List ℕ → List ℕ
fault_text k line fault = line_text ++ (decimal k ++ (quote_text ++ (shown_of line ++ fault)))
