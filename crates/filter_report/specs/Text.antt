-- The text that the program prints for a list: its filter, or the line at fault.
-- Source: request #102; docs/FORMATS.md, "Lists".
use Rattle.std.specs.Prelude.{ℕ, Bool, cond, List, [], ◌∷◌, ◌++◌, leb, length}
use Rattle.laws.specs.Ascii.{ascii}
use Rattle.identifiers.specs.Limits.{width_of, limit_of}
use Rattle.filter_list.specs.Pattern.{pattern_of}
use Rattle.filter_list.specs.Answers.{through_of, registers_of_list}
use Rattle.filter_report.specs.Hex.{hex_of}
use Rattle.filter_report.specs.Listed.{listed_text}
use Rattle.filter_report.specs.Through.{through_text}
use Rattle.filter_report.specs.Faults.{above_text, wrong_text, fault_text}
use Rattle.filter_report.specs.Lines.{Found, listed, above_at, wrong_at, found_in}

-- a longer text is not read
abbrev pub text_limit : ℕ
text_limit = 65536

-- a pattern and its registers, a line each
unfoldable pub registers_text : List ℕ → List ℕ → List ℕ
registers_text pattern registers = ascii "pattern " ++ (pattern ++ (ascii "\nregisters " ++ (hex_of registers ++ ascii "\n")))

-- all lines of a filter
unfoldable pub lines_text : Bool → List ℕ → List ℕ → List ℕ → ℕ → List ℕ
lines_text extended list pattern registers through =
    listed_text extended list ++ (registers_text pattern registers ++ through_text extended pattern list through)

abbrev pub filter_text : Bool → List ℕ → List ℕ
filter_text extended list =
    lines_text extended list (pattern_of (width_of extended) list) (registers_of_list extended list) (through_of extended (registers_of_list extended list))

abbrev pub none_text : List ℕ
none_text = ascii "no identifiers\n"

abbrev pub long_text : List ℕ
long_text = ascii "longer than 65536 bytes\n"

abbrev pub list_text : Bool → List ℕ → List ℕ
list_text extended [] = none_text
list_text extended (n ∷ list) = filter_text extended (n ∷ list)

abbrev pub found_text : Bool → Bool → Found → List ℕ
found_text extended hex (listed list) = list_text extended list
found_text extended hex (above_at k line) = fault_text k line (above_text extended)
found_text extended hex (wrong_at k line) = fault_text k line (wrong_text hex)

unfoldable pub text_of : Bool → Bool → List ℕ → List ℕ
text_of extended hex text = cond (leb (length text) text_limit) (found_text extended hex (found_in (limit_of extended) hex text)) long_text
