-- An answer of the reader is told by what is said of it, so two that meet a contract are equal. Assumes nothing.
use mathlib.Core.Path.{◌≡◌, refl}
use Rattle.std.specs.Prelude.{Result}
use Rattle.refusals.proofs.Only.{only-answer}
use Rattle.refusals.specs.declared.Refusal.{Refusal}
use Rattle.file_reading.specs.declared.Sections.{Sections}
use Rattle.file_reading.specs.Reader.{reading_said}

pub only-read : (r s : Result Sections Refusal) → reading_said r ≡ reading_said s → r ≡ s
only-read = only-answer (λ sections. sections) (λ sections. sections) (λ sections. refl)
