-- What a text says, line by line: its identifiers in order, or the first line at fault, with its number, counted from 1.
-- Source: request #102; docs/FORMATS.md, "Lists".
use Rattle.std.specs.Prelude.{ℕ, suc, Bool, cond, List, [], ◌∷◌, eqb, Option, Some, None, Result, Ok, Err}
use Rattle.filter_report.specs.Line.{line_of}
use Rattle.filter_report.specs.declared.line.Fault.{Fault}
use Rattle.filter_report.specs.declared.line.Fault.TheVariants.{Above, NotANumber}

-- the parts between newlines
abbrev pub onto : ℕ → List (List ℕ) → List (List ℕ)
onto c [] = (c ∷ []) ∷ []
onto c (line ∷ lines) = (c ∷ line) ∷ lines

unfoldable pub lines_of : List ℕ → List (List ℕ)
lines_of [] = [] ∷ []
lines_of (c ∷ text) = cond (eqb c 10) ([] ∷ lines_of text) (onto c (lines_of text))

pub data Found : Type 0 where
  listed : List ℕ → Found
  above_at : ℕ → List ℕ → Found
  wrong_at : ℕ → List ℕ → Found

-- an identifier in front
abbrev pub with : ℕ → Found → Found
with n (listed list) = listed (n ∷ list)
with n (above_at k line) = above_at k line
with n (wrong_at k line) = wrong_at k line

-- the line of number k, what it says, and what is found behind it
abbrev pub found_by : ℕ → List ℕ → Result (Option ℕ) Fault → Found → Found
found_by k line (Ok None) rest = rest
found_by k line (Ok (Some n)) rest = with n rest
found_by k line (Err Above) rest = above_at k line
found_by k line (Err NotANumber) rest = wrong_at k line

unfoldable pub found_from : ℕ → Bool → ℕ → List (List ℕ) → Found
found_from limit hex k [] = listed []
found_from limit hex k (line ∷ lines) = found_by k line (line_of limit hex line) (found_from limit hex (suc k) lines)

unfoldable pub found_in : ℕ → Bool → List ℕ → Found
found_in limit hex text = found_from limit hex 1 (lines_of text)
