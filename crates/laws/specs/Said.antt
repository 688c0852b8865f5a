-- An answer as the outline writes it: a refusal by its number with the numbers that it carries, or what is given.
-- Source: the outline, "Refusals by number".
use Rattle.std.specs.Prelude.{ℕ, Bool, true, false, List}

pub data Said (A : Type 0) : Type 0 where
  refuses : ℕ → List ℕ → Said A
  gives : A → Said A

abbrev pub accepted : {A : Type 0} → Said A → Bool
accepted (refuses number carried) = false
accepted (gives a) = true
