-- The answers from code and mask, each from the tests that lead to it. Assumes nothing.
use Prim.Native.Nat.{ℕ, suc}
use mathlib.Core.Path.{◌≡◌, refl, sym, ap, ◌∙◌}
use mathlib.Core.Bool.{Bool, true, false, cond, ◌&&◌, false≢true}
use mathlib.Core.List.{List, [], ◌∷◌}
use lib.Dec.{leb}
use lib.ListN.{length, replicate}
use Rattle.laws.specs.Said.{Said, refuses, gives, accepted}
use Rattle.laws.proofs.Bools.{both_true}
use Rattle.refusals.specs.Table.{refusal_said}
use Rattle.refusals.specs.declared.Refusal.{Refusal}
use Rattle.identifiers.specs.Limits.{limit_of}
use Rattle.filter_registers.specs.Registers.{registers_of}
use Rattle.filter_compilers.specs.Table.{Filter, single_standard, single_extended, dual_standard, dual_extended, fields_of}
use Rattle.filter_types.specs.Words.{laid_of}
use Rattle.filter_types.specs.Answers.{Held, identifier, number, held_by, all_within, limits_kept, code_mask_of}

-- the limits judged
pub limits-broken : (kept : Bool) (f : Refusal) → refusal_said {A = ℕ} f ≡ cond kept (gives 8) (refuses 1 []) → (kept ≡ false) × (refusal_said {A = ℕ} f ≡ refuses 1 [])
limits-broken true f e = absurd (false≢true (ap accepted e))
limits-broken false f e = (refl, e)

pub limits-met : (kept : Bool) → gives 8 ≡ cond {A = Said ℕ} kept (gives 8) (refuses 1 []) → kept ≡ true
limits-met true e = refl
limits-met false e = absurd (false≢true (sym (ap accepted e)))

pub code-mask-refused : (filter : Filter) (codes masks : List ℕ) (f : Refusal) → limits_kept filter codes masks ≡ false → refusal_said {A = ℕ} f ≡ refuses 1 []
    → ◌≡◌ {A = Said ℕ × List ℕ} (refusal_said f, replicate 8 0) (code_mask_of filter codes masks)
unfolding code_mask_of
code-mask-refused filter codes masks f e said = rw (e, said)

pub code-mask-made : (filter : Filter) (codes masks registers : List ℕ) (code mask : ℕ) → limits_kept filter codes masks ≡ true
    → registers ≡ registers_of code mask → code ≡ laid_of (fields_of filter) codes → mask ≡ laid_of (fields_of filter) masks
    → ◌≡◌ {A = Said ℕ × List ℕ} (gives 8, registers) (code_mask_of filter codes masks)
unfolding code_mask_of
code-mask-made filter codes masks registers code mask e r c m = rw (e, r, c, m)

-- ---- all codes and then all masks, or identifier by identifier as the code asks: the same tests
one-both : (code mask : Bool) → ((code && true) && (mask && true)) ≡ (code && mask)
one-both true true = refl
one-both true false = refl
one-both false mask = refl

two-both : (code mask code' mask' : Bool) → ((code && (code' && true)) && (mask && (mask' && true))) ≡ ((code && mask) && (code' && mask'))
two-both true true code' mask' = one-both code' mask'
two-both true false true mask' = refl
two-both true false false mask' = refl
two-both false mask code' mask' = refl

module _ (format : Bool) (code mask : ℕ) where
  pub one_kept : ((leb code (limit_of format) && true) && (leb mask (limit_of format) && true)) ≡ (leb code (limit_of format) && leb mask (limit_of format))
  one_kept = one-both (leb code (limit_of format)) (leb mask (limit_of format))

  pub two-kept : (code' mask' : ℕ)
      → ((leb code (limit_of format) && (leb code' (limit_of format) && true)) && (leb mask (limit_of format) && (leb mask' (limit_of format) && true)))
      ≡ ((leb code (limit_of format) && leb mask (limit_of format)) && (leb code' (limit_of format) && leb mask' (limit_of format)))
  two-kept code' mask' = two-both (leb code (limit_of format)) (leb mask (limit_of format)) (leb code' (limit_of format)) (leb mask' (limit_of format))

-- ---- what is accepted has a number for each field
each_number : (fields : List Held) (values : List ℕ) → all_within fields values ≡ true → length values ≡ length fields
each_number [] [] e = refl
each_number [] (n ∷ values) e = absurd (false≢true e)
each_number (h ∷ fields) [] e = absurd (false≢true e)
each_number (identifier format ∷ fields) (n ∷ values) e =
    ap suc (each_number fields values (both_true (leb n (limit_of format)) (all_within fields values) e).1)
each_number (number ∷ fields) (n ∷ values) e = ap suc (each_number fields values e)

held_whole : (filter : Filter) → length (held_by filter) ≡ length (fields_of filter)
unfolding fields_of
held_whole single_standard = refl
held_whole single_extended = refl
held_whole dual_standard = refl
held_whole dual_extended = refl

module _ (filter : Filter) (codes masks : List ℕ) (laid : (code_mask_of filter codes masks).0 ≡ gives 8) where
  kept : limits_kept filter codes masks ≡ true
  unfolding code_mask_of
  kept = by (limits_kept filter codes masks) laid
    where
      by : (b : Bool) → cond {A = Said ℕ} b (gives 8) (refuses 1 []) ≡ gives 8 → b ≡ true
      by true e = refl
      by false e = absurd (false≢true (ap accepted e))

  pub codes-whole : length codes ≡ length (fields_of filter)
  codes-whole =
      each_number (held_by filter) codes (both_true (all_within (held_by filter) codes) (all_within (held_by filter) masks) kept).0
      ∙ held_whole filter

  pub masks-whole : length masks ≡ length (fields_of filter)
  masks-whole =
      each_number (held_by filter) masks (both_true (all_within (held_by filter) codes) (all_within (held_by filter) masks) kept).1
      ∙ held_whole filter
