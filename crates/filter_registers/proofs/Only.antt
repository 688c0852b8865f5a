-- An answer of the compilers is told by what is said of it, so two that meet a contract are equal. Assumes nothing.
use Prim.Native.Nat.{ℕ}
use mathlib.Core.Path.{◌≡◌}
use mathlib.Core.List.{List}
use Rattle.std.specs.Prelude.{Result}
use Rattle.refusals.specs.declared.Refusal.{Refusal}
use Rattle.refusals.proofs.Only.{only-bytes}
use Rattle.filter_registers.specs.Answers.{compiled_said}

pub only-compiled : (r s : Result (List ℕ) Refusal) → compiled_said r ≡ compiled_said s → r ≡ s
only-compiled = only-bytes 8
