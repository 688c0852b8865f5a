-- What the code's own parts say, in the words of Lines.antt. No promise of a public function cites it.
use Rattle.std.specs.Prelude.{ℕ, ◌≤◌, List, take, Result, Ok, Err}
use Rattle.filter_report.specs.Lines.{Found, listed, above_at, wrong_at}
use Rattle.filter_report.specs.declared.line.Fault.{Fault}
use Rattle.filter_report.specs.declared.line.Fault.TheVariants.{Above, NotANumber}
use Rattle.filter_report.specs.declared.faults.FaultyLine.{FaultyLine}

-- a line at fault, by its fault
abbrev pub fault_found : Fault → ℕ → List ℕ → Found
fault_found Above k line = above_at k line
fault_found NotANumber k line = wrong_at k line

-- a reading of a text, whose identifiers stand in the front of a list
abbrev pub reading_found : Result ℕ FaultyLine → List ℕ → Found
reading_found (Ok count) list = listed (take count list)
reading_found (Err f) list = fault_found f.fault f.number f.line.now

-- a count within a length
abbrev pub count_within : Result ℕ FaultyLine → ℕ → Type 0
count_within (Ok count) n = count ≤ n
count_within (Err f) n = Unit
