-- The line that says which identifiers were listed: how many, and the first of them.
-- Source: request #102; docs/FORMATS.md, "Lists".
use Rattle.std.specs.Prelude.{ℕ, ◌/◌, ◌%◌, ◌^◌, Bool, true, false, cond, List, [], ◌∷◌, ◌++◌, leb, length, take}
use Rattle.laws.specs.Ascii.{ascii}
use Rattle.text.specs.Decimal.{decimal}
use Rattle.filter_list.specs.Pattern.{down_from}
use Rattle.filter_report.specs.Hex.{hex_digit}

-- no more identifiers are named in a line
abbrev pub named_limit : ℕ
named_limit = 16

-- how many hexadecimal digits an identifier is written with
abbrev pub hex_width : Bool → ℕ
hex_width false = 3
hex_width true = 8

-- the last n hexadecimal digits of a number
abbrev pub last_digits : ℕ → ℕ → List ℕ
last_digits n number = down_from n (λ k. hex_digit (number / 16 ^ k % 16))

-- an identifier, and several, each behind a blank
unfoldable pub id_text : Bool → ℕ → List ℕ
id_text extended id = ascii " 0x" ++ last_digits (hex_width extended) id

unfoldable pub ids_text : Bool → List ℕ → List ℕ
ids_text extended [] = []
ids_text extended (id ∷ ids) = id_text extended id ++ ids_text extended ids

unfoldable pub front_text : Bool → List ℕ → List ℕ
front_text extended list = cond (leb (length list) named_limit) (ids_text extended list) (ids_text extended (take named_limit list) ++ ascii " ..")

unfoldable pub listed_text : Bool → List ℕ → List ℕ
listed_text extended list = ascii "listed " ++ (decimal (length list) ++ (ascii ":" ++ (front_text extended list ++ ascii "\n")))
