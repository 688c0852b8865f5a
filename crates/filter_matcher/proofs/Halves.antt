-- The positions that are compared in each half of a row stand apart and within the word, whatever data the frame has; a row has a number for each of its
-- fields. Assumes nothing.
use Prim.Native.Nat.{ℕ, zero, suc, ◌+◌, ◌≤◌, ◌<◌, min}
use mathlib.Core.Path.{◌≡◌, refl}
use mathlib.Core.Logic.{◌↔◌}
use lib.Dec.{T}
use lib.ListN.{length, take, drop}
use native.Mathlib.Omega.{arith}
use Rattle.filter_compilers.specs.Table.{Filter, single_standard, single_extended, dual_standard, dual_extended, fields_of, joined}
use Rattle.filter_compilers.specs.Meaning.{distinct, within}
use Rattle.filter_matcher.specs.Fields.{numbers_in, compared_fields, first_fields}

-- ---- as many bytes as the row has fields for them
pub two_bytes : (bytes : ℕ) → 2 ≤ bytes → 2 + min bytes 2 ≡ 4
two_bytes bytes h = omega arith

pub one_byte : (bytes : ℕ) → 1 ≤ bytes → 2 + min bytes 1 ≡ 3
one_byte bytes h = omega arith

-- ---- payload bits are compared only for bytes that the frame has: the fields of a row count from 0, its data bytes from 2 on
pub single-payload : (i bytes : ℕ) → i < 2 → 2 + i < compared_fields single_standard bytes ↔ i < bytes
single-payload i bytes h = (λ c. omega (arith, c), λ c. omega (arith, c))

pub dual-payload : (bytes : ℕ) → 2 < compared_fields dual_standard bytes ↔ 0 < bytes
dual-payload bytes = (λ c. omega (arith, c), λ c. omega (arith, c))

-- ---- each row, by tests that compute over the table
pub first-distinct : (filter : Filter) (bytes : ℕ) → T (distinct (joined (take (compared_fields filter bytes) (fields_of filter))))
unfolding fields_of
first-distinct single_standard zero = tt
first-distinct single_standard (suc zero) = tt
first-distinct single_standard (suc (suc n)) = rw (two_bytes (suc (suc n)) (omega arith)) tt
first-distinct single_extended bytes = tt
first-distinct dual_standard zero = tt
first-distinct dual_standard (suc n) = rw (one_byte (suc n) (omega arith)) tt
first-distinct dual_extended bytes = tt

pub first-within : (filter : Filter) (bytes : ℕ) → T (within (joined (take (compared_fields filter bytes) (fields_of filter))))
unfolding fields_of
first-within single_standard zero = tt
first-within single_standard (suc zero) = tt
first-within single_standard (suc (suc n)) = rw (two_bytes (suc (suc n)) (omega arith)) tt
first-within single_extended bytes = tt
first-within dual_standard zero = tt
first-within dual_standard (suc n) = rw (one_byte (suc n) (omega arith)) tt
first-within dual_extended bytes = tt

pub second-distinct : (filter : Filter) → T (distinct (joined (drop (first_fields filter) (fields_of filter))))
unfolding fields_of
second-distinct single_standard = tt
second-distinct single_extended = tt
second-distinct dual_standard = tt
second-distinct dual_extended = tt

pub second-within : (filter : Filter) → T (within (joined (drop (first_fields filter) (fields_of filter))))
unfolding fields_of
second-within single_standard = tt
second-within single_extended = tt
second-within dual_standard = tt
second-within dual_extended = tt

pub numbers-whole : (filter : Filter) (id rtr byte next : ℕ) → length (numbers_in filter id rtr byte next) ≡ length (fields_of filter)
unfolding fields_of numbers_in
numbers-whole single_standard id rtr byte next = refl
numbers-whole single_extended id rtr byte next = refl
numbers-whole dual_standard id rtr byte next = refl
numbers-whole dual_extended id rtr byte next = refl
