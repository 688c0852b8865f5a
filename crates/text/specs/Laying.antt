-- What laying a text into an output answers, in the outline's numbers: the length of the text, or refusal 6.
-- Source: the outline, "Refusals by number".
use Rattle.std.specs.Prelude.{ℕ, Result}
use Rattle.laws.specs.Said.{Said}
use Rattle.refusals.specs.Table.{answer_said}
use Rattle.refusals.specs.declared.Refusal.{Refusal}

abbrev pub laying_said : Result ℕ Refusal → Said ℕ
laying_said = answer_said (λ length. length)
