-- The answer of an exported function: the outline's answer as two numbers, and what the exports alone judge.
-- Source: the outline, "Refusals by number", 6 and 14, and "What changes shape".
use Rattle.std.specs.Prelude.{ℕ, Bool, cond, List, [], ◌∷◌, eqb, length, replicate, Result}
use Rattle.laws.specs.Row.{bit}
use Rattle.laws.specs.Said.{Said, refuses, gives}
use Rattle.laws.specs.Laid.{laying, written}
use Rattle.refusals.specs.Table.{answer_said, in_one}
use Rattle.refusals.specs.declared.Refusal.{Refusal}
use Rattle.abi_answers.specs.declared.Answer.{Answer}

-- number 0 and what is given, or the refusal's number and the numbers that it carries, in one
abbrev pub answer_of : Said ℕ → Answer
answer_of (gives n) = record { number = 0; value = n }
answer_of (refuses number carried) = record { number = number; value = in_one carried }

-- a yes or no as 1 or 0
abbrev pub flag_said : Said Bool → Said ℕ
flag_said (gives b) = gives (bit b)
flag_said (refuses number carried) = refuses number carried

-- a slice of another length than its own is refusal 14 with its argument, before all else
unfoldable pub sized : ℕ → ℕ → List ℕ → Said ℕ → Said ℕ
sized n argument slice said = cond (eqb (length slice) n) said (refuses 14 (argument ∷ []))

abbrev pub whole : ℕ → List ℕ → Said ℕ → Said ℕ
whole = sized 13

-- a slice in the front of n zeros, where there is room for it
abbrev pub laid_into : ℕ → List ℕ → List ℕ
laid_into n slice = written (laying slice (replicate n 0)) slice (replicate n 0)

-- a slice lent on as an array of n bytes, the argument of this number: what stands there, or refusal 14
abbrev pub lent_said : ℕ → ℕ → List ℕ → Said (List ℕ)
lent_said n argument slice = cond (eqb (length slice) n) (gives slice) (refuses 14 (argument ∷ []))

abbrev pub delivery_said : Result ℕ Refusal → Said ℕ
delivery_said = answer_said (λ value. value)

-- an answer with bytes beside it, delivered into a lent slice of n bytes
abbrev pub delivering : ℕ → ℕ → List ℕ → Said ℕ × List ℕ → Said ℕ
delivering n argument slice a = sized n argument slice a.0

abbrev pub delivery_leaves : ℕ → ℕ → List ℕ → Said ℕ × List ℕ → List ℕ
delivery_leaves n argument slice a = written (delivering n argument slice a) a.1 slice
