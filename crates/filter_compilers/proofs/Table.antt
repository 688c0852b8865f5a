-- Facts of the table's rows, each by one test that computes over all of them. Assumes nothing.
use Prim.Native.Nat.{ℕ, zero, suc, ◌<◌}
use mathlib.Core.List.{List, [], ◌∷◌}
use lib.Dec.{T, ltb, ltb→lt}
use lib.ListN.{length, get_or}
use native.Mathlib.Nat.{not-suc-le-zero, le_of_suc-le-suc}
use Rattle.laws.proofs.Bools.{both_left, both_right}
use Rattle.filter_compilers.specs.Table.{Filter, single_standard, single_extended, dual_standard, dual_extended, fields_of, row_of}
use Rattle.filter_compilers.specs.Meaning.{distinct, within}

pub within-at : (ps : List ℕ) → T (within ps) → (i : ℕ) → i < length ps → get_or ps i 0 < 32
within-at [] t i h = absurd (not-suc-le-zero h)
within-at (p ∷ ps) t zero h = ltb→lt p 32 (both_left (ltb p 32) (within ps) t)
within-at (p ∷ ps) t (suc i) h = within-at ps (both_right (ltb p 32) (within ps) t) i (le_of_suc-le-suc h)

pub row_within : (filter : Filter) → T (within (row_of filter))
unfolding fields_of
row_within single_standard = tt
row_within single_extended = tt
row_within dual_standard = tt
row_within dual_extended = tt

pub row-distinct : (filter : Filter) → T (distinct (row_of filter))
unfolding fields_of
row-distinct single_standard = tt
row-distinct single_extended = tt
row-distinct dual_standard = tt
row-distinct dual_extended = tt
