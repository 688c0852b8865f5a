-- What is said of a compiler's answer and of the registers beside it: zeros beside a refusal.
-- Source: the outline, "Refusals by number" and "Registers".
use Rattle.std.specs.Prelude.{ℕ, List, Result}
use Rattle.laws.specs.Said.{Said}
use Rattle.refusals.specs.Table.{bytes_said}
use Rattle.refusals.specs.declared.Refusal.{Refusal}

abbrev pub compiled_said : Result (List ℕ) Refusal → Said ℕ × List ℕ
compiled_said = bytes_said 8
