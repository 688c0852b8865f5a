-- An answer of the writer is told by what is said of it, so two that meet a contract are equal. Assumes nothing.
use Prim.Native.Nat.{ℕ}
use mathlib.Core.Path.{◌≡◌, refl}
use Rattle.std.specs.Prelude.{Result}
use Rattle.refusals.proofs.Only.{only-answer}
use Rattle.refusals.specs.declared.Refusal.{Refusal}
use Rattle.file_writing.specs.Writer.{writing_said}

pub only-written : (r s : Result ℕ Refusal) → writing_said r ≡ writing_said s → r ≡ s
only-written = only-answer (λ length. length) (λ length. length) (λ length. refl)
