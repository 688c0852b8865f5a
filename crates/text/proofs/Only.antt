-- The answer of laying a text is told by what is said of it, so two that meet a contract are equal. Assumes nothing.
use Prim.Native.Nat.{ℕ}
use mathlib.Core.Path.{◌≡◌, refl}
use Rattle.std.proofs.Common.{Result}
use Rattle.refusals.proofs.Only.{only-answer}
use Rattle.refusals.specs.declared.Refusal.{Refusal}
use Rattle.text.specs.Laying.{laying_said}

pub only-laid : (r s : Result ℕ Refusal) → laying_said r ≡ laying_said s → r ≡ s
only-laid = only-answer (λ length. length) (λ length. length) (λ length. refl)
