-- An answer to a list is told by what is said of it, so two that meet the contract are equal. Assumes nothing.
use Prim.Native.Nat.{ℕ}
use mathlib.Core.Path.{◌≡◌, refl, ap}
use mathlib.Core.List.{List}
use Rattle.std.proofs.Common.{Result, Ok, Err}
use Rattle.laws.specs.Said.{Said, refuses, gives}
use Rattle.laws.proofs.Only.{only}
use Rattle.refusals.specs.declared.Refusal.{Refusal}
use Rattle.refusals.proofs.Only.{refusal_at, refusal-at}
use Rattle.filter_list.specs.Answers.{listed_said}
use Rattle.filter_list.specs.declared.Listed.{Listed}

listed_read_back : Said ℕ × List ℕ → Result Listed Refusal
listed_read_back (gives through, registers) = Ok (record { through = through; registers = registers })
listed_read_back (refuses k n, registers) = Err (refusal_at k n)

listed_back : (r : Result Listed Refusal) → listed_read_back (listed_said r) ≡ r
unfolding listed_read_back
listed_back (Ok listed) = refl
listed_back (Err f) = ap Err (refusal-at f)

pub only-listed : (r s : Result Listed Refusal) → listed_said r ≡ listed_said s → r ≡ s
only-listed = only listed_said listed_read_back listed_back
