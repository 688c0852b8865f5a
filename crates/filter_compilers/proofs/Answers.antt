-- The answers of a compile, each from the tests that lead to it. Assumes nothing.
use Prim.Native.Nat.{ℕ, ◌+◌, ◌≤◌}
use mathlib.Core.Path.{◌≡◌, refl, ap₂, sym, ◌∙◌, ap}
use mathlib.Core.List.{List, [], ◌∷◌}
use lib.ListN.{length, replicate, length-append}
use native.Mathlib.Omega.{arith}
use Rattle.laws.specs.Said.{Said, refuses, gives}
use Rattle.refusals.specs.Table.{number_of, carried_of, refusal_said}
use Rattle.refusals.specs.declared.Refusal.{Refusal}
use Rattle.filter_registers.specs.Registers.{registers_of}
use Rattle.filter_compilers.specs.Table.{Filter, single_standard, single_extended, dual_standard, dual_extended, run, fields_of, joined, lengths}
use Rattle.filter_compilers.specs.Words.{one, care, code_of, mask_of}
use Rattle.filter_compilers.specs.Answers.{lengths_of, characters_of, answered, compile_of}
use Rattle.filter_compilers.proofs.Characters.{one-not, care-not}
use Rattle.filter_compilers.proofs.Lengths.{lengths-same, lengths-stop}
use Rattle.filter_compilers.proofs.Joined.{total}
use Rattle.filter_compilers.proofs.Fields.{Shows}

-- ---- the answer
pub answered-refused : (said : Said ℕ) (registers : List ℕ) (k : ℕ) (v : List ℕ) → said ≡ refuses k v → ◌≡◌ {A = Said ℕ × List ℕ} (refuses k v, replicate 8 0) (answered said registers)
answered-refused said registers k v e = rw e

pub answered-made : (said : Said ℕ) (registers given : List ℕ) → said ≡ gives 8 → given ≡ registers → ◌≡◌ {A = Said ℕ × List ℕ} (gives 8, given) (answered said registers)
answered-made said registers given e h = rw (e, h)

-- ---- a pattern of another length than its field
pub length-refused : (filter : Filter) (patterns : List (List ℕ)) (f : Refusal) → refusal_said f ≡ lengths_of 0 (lengths (fields_of filter)) (lengths patterns) (gives 8)
    → ◌≡◌ {A = Said ℕ × List ℕ} (refusal_said f, replicate 8 0) (compile_of filter patterns)
unfolding compile_of
length-refused filter patterns f h =
    answered-refused _ _ (number_of f) (carried_of f) (lengths-stop 0 (lengths (fields_of filter)) (lengths patterns) _ (number_of f) (carried_of f) (sym h))

-- ---- a row that shows the patterns
pub all_made : (filter : Filter) (patterns : List (List ℕ)) (row : List ℕ) → Shows filter patterns row
    → answered (characters_of 0 patterns) (registers_of (code_of (run 0 32) row) (mask_of (run 0 32) row)) ≡ compile_of filter patterns
unfolding compile_of
all_made filter patterns row S =
    ap₂ answered
    (sym (ap (λ (ls : List ℕ). lengths_of 0 (lengths (fields_of filter)) ls (characters_of 0 patterns)) S.widths
    ∙ lengths-same 0 (lengths (fields_of filter)) (characters_of 0 patterns)))
    (ap₂ registers_of (S.words one (one-not 120 (λ z. omega arith))) (S.words care (care-not 120 refl)))

-- ---- no pattern set is longer than a row
joined-total : (patterns : List (List ℕ)) → length (joined patterns) ≡ total (lengths patterns)
joined-total [] = refl
joined-total (p ∷ patterns) = length-append p (joined patterns) ∙ ap (λ (n : ℕ). length p + n) (joined-total patterns)

fields-short : (filter : Filter) → total (lengths (fields_of filter)) ≤ 32
unfolding fields_of
fields-short single_standard = omega arith
fields-short single_extended = omega arith
fields-short dual_standard = omega arith
fields-short dual_extended = omega arith

pub short : (filter : Filter) (patterns : List (List ℕ)) (row : List ℕ) → Shows filter patterns row → length (joined patterns) ≤ 32
short filter patterns row S = rw (joined-total patterns, S.widths) (fields-short filter)
