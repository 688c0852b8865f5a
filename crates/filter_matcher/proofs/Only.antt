-- An answer of the matcher is told by what is said of it, so two that meet a contract are equal. Assumes nothing.
use mathlib.Core.Path.{◌≡◌, refl}
use mathlib.Core.Bool.{Bool}
use Rattle.std.proofs.Common.{Result}
use Rattle.refusals.specs.declared.Refusal.{Refusal}
use Rattle.refusals.proofs.Only.{only-answer}
use Rattle.filter_matcher.specs.Words.{matching_said}

pub only-matching : (r s : Result Bool Refusal) → matching_said r ≡ matching_said s → r ≡ s
only-matching = only-answer (λ b. b) (λ b. b) (λ b. refl)
