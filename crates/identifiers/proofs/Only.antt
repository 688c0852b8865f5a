-- An answer of the constructors is told by what is said of it, so two that meet a contract are equal. Assumes nothing.
use mathlib.Core.Path.{◌≡◌, refl}
use Rattle.std.proofs.Common.{Result}
use Rattle.refusals.proofs.Only.{only-answer}
use Rattle.refusals.specs.declared.Refusal.{Refusal}
use Rattle.identifiers.specs.Answers.{standard_said, extended_said}
use Rattle.identifiers.specs.declared.StandardId.{StandardId}
use Rattle.identifiers.specs.declared.ExtendedId.{ExtendedId}

pub only-standard : (m n : Result StandardId Refusal) → standard_said m ≡ standard_said n → m ≡ n
only-standard = only-answer (λ id. id.0) (λ raw. record { 0 = raw }) (λ id. refl)

pub only-extended : (m n : Result ExtendedId Refusal) → extended_said m ≡ extended_said n → m ≡ n
only-extended = only-answer (λ id. id.0) (λ raw. record { 0 = raw }) (λ id. refl)
