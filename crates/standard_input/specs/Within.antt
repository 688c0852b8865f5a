-- What was read lies within the buffer.
-- Source: the outline, "No input traps".
use Rattle.std.specs.Prelude.{ℕ, List, Result, Ok, Err}
use Rattle.io.specs.Counts.{IsPrefixLen}

abbrev pub Within : {E : Type 0} → Result ℕ E → List ℕ → Type 0
Within (Ok n) buffer = IsPrefixLen n buffer
Within (Err _) buffer = Unit {0}
