-- One word compare is the agreement at each position that it names: a bit of the difference is left exactly where a named position is compared and the
-- code has not the word's bit. Assumes nothing.
use Prim.Native.Nat.{ℕ, zero, suc, ◌+◌, ◌-◌, ◌*◌, ◌/◌, ◌%◌, ◌^◌, ◌<◌, min}
use mathlib.Core.Path.{◌≡◌, refl, sym, ap, ap₂, ◌∙◌}
use mathlib.Core.Logic.{inl, inr}
use mathlib.Core.Bool.{Bool, true, false, cond}
use mathlib.Core.List.{List, [], ◌∷◌, map}
use lib.Bits.{bit_and, bit_xor, differ, and_lt, xor_lt, and_block, and_zero_l}
use lib.Dec.{T, eqb}
use lib.ListN.{length, get_or}
use native.Mathlib.Nat.{not-suc-le-zero, le_of_suc-le-suc}
use native.Mathlib.Omega.{arith}
use borrow.Author.Tests.{eq-eqb, ne_eqb, eqb-true, eqb-false}
use Rattle.laws.specs.Bits.{bit_at}
use Rattle.laws.proofs.Bits.{bit-lt, bit-zero, bit-and, bit-xor, bit_not, bit-ext, differ-zero, differ_same}
use Rattle.laws.proofs.Bools.{same_test, and_yes, both_true}
use Rattle.filter_registers.specs.Registers.{code_in, mask_in}
use Rattle.filter_compilers.specs.Meaning.{distinct, within, character_in, characters_in}
use Rattle.filter_compilers.proofs.Table.{within-at}
use Rattle.filter_compilers.proofs.Agree.{where-is}
use Rattle.filter_matcher.specs.Shown.{ones_at}
use Rattle.filter_matcher.proofs.Digits.{shown_at}
use Rattle.filter_matcher.proofs.Ones.{ones_in, ones-out, ones_lt}
use Rattle.filter_matcher.specs.Match.{fits, all_fit}
use Rattle.filter_matcher.specs.Words.{miss_of}

-- ---- two words in one of 64 bits: the complement of the whole has that of the lower word, and nothing above it is left
miss-in : (x r : ℕ) → x < 2 ^ 32 → r < 2 ^ 64 → bit_and x (2 ^ 64 - 1 - r) ≡ bit_and x (2 ^ 32 - 1 - r % 2 ^ 32)
miss-in x r hx hr =
    let apart : 2 ^ 64 - 1 - r ≡ (2 ^ 32 - 1 - r / 2 ^ 32) * 2 ^ 32 + (2 ^ 32 - 1 - r % 2 ^ 32) = omega arith in
    let own : x ≡ 0 * 2 ^ 32 + x = omega arith in
    let none : bit_and 0 (2 ^ 32 - 1 - r / 2 ^ 32) * 2 ^ 32 + bit_and x (2 ^ 32 - 1 - r % 2 ^ 32) ≡ bit_and x (2 ^ 32 - 1 - r % 2 ^ 32) = omega (arith, and_zero_l (2 ^ 32 - 1 - r / 2 ^ 32)) in
    ap₂ bit_and own apart ∙ and_block 32 0 (2 ^ 32 - 1 - r / 2 ^ 32) x (2 ^ 32 - 1 - r % 2 ^ 32) hx (omega arith) ∙ none

pub miss-both : (r w named : ℕ) → r < 2 ^ 64 → w < 2 ^ 32
    → bit_and (bit_and (bit_xor (r / 2 ^ 32) w) (2 ^ 64 - 1 - r)) named ≡ miss_of (r / 2 ^ 32) (r % 2 ^ 32) w named
unfolding miss_of
miss-both r w named hr hw = ap (λ (x : ℕ). bit_and x named) (miss-in (bit_xor (r / 2 ^ 32) w) r (xor_lt 32 (r / 2 ^ 32) w (omega arith) hw) hr)

module _ (registers : List ℕ) (w : ℕ) where
  abbrev code : ℕ
  code = code_in registers

  abbrev mask : ℕ
  mask = mask_in registers

  abbrev ok : ℕ → Bool
  ok k = fits (character_in registers k) (shown_at w k)

  -- all places of a row agree exactly if each does
  all-at : (ps : List ℕ) → all_fit (characters_in registers ps) (map (shown_at w) ps) ≡ true → (i : ℕ) → i < length ps → ok (get_or ps i 0) ≡ true
  unfolding all_fit
  all-at [] e i h = absurd (not-suc-le-zero h)
  all-at (p ∷ ps) e zero h = (both_true (ok p) (all_fit (characters_in registers ps) (map (shown_at w) ps)) e).0
  all-at (p ∷ ps) e (suc i) h = all-at ps (both_true (ok p) (all_fit (characters_in registers ps) (map (shown_at w) ps)) e).1 i (le_of_suc-le-suc h)

  at_all : (ps : List ℕ) → ((i : ℕ) → i < length ps → ok (get_or ps i 0) ≡ true) → all_fit (characters_in registers ps) (map (shown_at w) ps) ≡ true
  unfolding all_fit
  at_all [] each = refl
  at_all (p ∷ ps) each = and_yes (ok p) (all_fit (characters_in registers ps) (map (shown_at w) ps)) (each 0 (omega arith)) (at_all ps (λ i h. each (suc i) (omega arith)))

  -- a place agrees exactly if nothing is left of the difference there
  abbrev gap : ℕ → ℕ
  gap k = min (differ (bit_at code k) (bit_at w k)) (1 - bit_at mask k)

  ok-gap : (k : ℕ) → ok k ≡ true → gap k ≡ 0
  ok-gap k e = by (eqb (bit_at mask k) 1) refl e
    where
      by : (t : Bool) → eqb (bit_at mask k) 1 ≡ t → fits (cond t 120 (48 + bit_at code k)) (shown_at w k) ≡ true → gap k ≡ 0
      by true q e = omega (arith, eqb-true (bit_at mask k) 1 q)
      by false q e =
          let other : (48 + bit_at code k ≡ 120 → ⊥) = λ z. omega (arith, bit-lt code k) in
          let same : 48 + bit_at code k ≡ 48 + bit_at w k = eqb-true (48 + bit_at code k) (48 + bit_at w k) (rw (ne_eqb (48 + bit_at code k) 120 other) at e) in
          let bits : bit_at code k ≡ bit_at w k = omega arith in
          let none : differ (bit_at code k) (bit_at w k) ≡ 0 = ap (λ (x : ℕ). differ x (bit_at w k)) bits ∙ differ_same (bit_at w k) in
          omega arith

  gap-ok : (k : ℕ) → gap k ≡ 0 → ok k ≡ true
  gap-ok k g = by (eqb (bit_at mask k) 1) refl
    where
      by : (t : Bool) → eqb (bit_at mask k) 1 ≡ t → fits (cond t 120 (48 + bit_at code k)) (shown_at w k) ≡ true
      by true q = refl
      by false q =
          let other : (48 + bit_at code k ≡ 120 → ⊥) = λ z. omega (arith, bit-lt code k) in
          let bits : bit_at code k ≡ bit_at w k = differ-zero (bit_at code k) (bit_at w k) (omega (arith, eqb-false (bit_at mask k) 1 q, bit-lt mask k)) in
          rw (ne_eqb (48 + bit_at code k) 120 other) (eq-eqb (48 + bit_at code k) (48 + bit_at w k) (ap (λ (x : ℕ). 48 + x) bits))

  module _ (code-small : code < 2 ^ 32) (mask-small : mask < 2 ^ 32) (word_small : w < 2 ^ 32) where
    left_at : (named k : ℕ) → k < 32 → bit_at (miss_of code mask w named) k ≡ min (gap k) (bit_at named k)
    unfolding miss_of
    left_at named k h =
        bit-and (bit_and (bit_xor code w) (2 ^ 32 - 1 - mask)) named k
        ∙ ap (λ (x : ℕ). min x (bit_at named k)) (bit-and (bit_xor code w) (2 ^ 32 - 1 - mask) k ∙ ap₂ (λ (x y : ℕ). min x y) (bit-xor code w k) (bit_not k 32 mask h mask-small))

    miss-lt : (named : ℕ) → named < 2 ^ 32 → miss_of code mask w named < 2 ^ 32
    unfolding miss_of
    miss-lt named h =
        and_lt 32 (bit_and (bit_xor code w) (2 ^ 32 - 1 - mask)) named (and_lt 32 (bit_xor code w) (2 ^ 32 - 1 - mask) (xor_lt 32 code w code-small word_small) (omega arith)) h

    -- the law
    pub miss-is : (ps : List ℕ) → T (distinct ps) → T (within ps) → eqb (miss_of code mask w (ones_at ps)) 0 ≡ all_fit (characters_in registers ps) (map (shown_at w) ps)
    miss-is ps apart inside = same_test _ _ to from
      where
        to : eqb (miss_of code mask w (ones_at ps)) 0 ≡ true → all_fit (characters_in registers ps) (map (shown_at w) ps) ≡ true
        to e = at_all ps each
          where
            each : (i : ℕ) → i < length ps → ok (get_or ps i 0) ≡ true
            each i h =
                let k = get_or ps i 0 in
                let none : min (gap (get_or ps i 0)) (bit_at (ones_at ps) (get_or ps i 0)) ≡ 0 =
                sym (left_at (ones_at ps) (get_or ps i 0) (within-at ps inside i h)) ∙ ap (λ (x : ℕ). bit_at x (get_or ps i 0)) (eqb-true (miss_of code mask w (ones_at ps)) 0 e) ∙ bit-zero (get_or ps i 0) in
                gap-ok (get_or ps i 0) (omega (arith, ones_in ps apart i h))

        from : all_fit (characters_in registers ps) (map (shown_at w) ps) ≡ true → eqb (miss_of code mask w (ones_at ps)) 0 ≡ true
        from e =
            eq-eqb (miss_of code mask w (ones_at ps)) 0
            (bit-ext 32 (miss_of code mask w (ones_at ps)) 0 (miss-lt (ones_at ps) (ones_lt ps inside)) (omega arith) (λ k h. left_at (ones_at ps) k h ∙ nothing k ∙ sym (bit-zero k)))
          where
            nothing : (k : ℕ) → min (gap k) (bit_at (ones_at ps) k) ≡ 0
            nothing k = elim (where-is k ps) [ inl (i, h, p) ↦ found i h p | inr none ↦ omega (arith, ones-out ps k none) ]
              where
                found : (i : ℕ) → i < length ps → k ≡ get_or ps i 0 → min (gap k) (bit_at (ones_at ps) k) ≡ 0
                found i h p = let g : gap k ≡ 0 = ap gap p ∙ ok-gap (get_or ps i 0) (all-at ps e i h) in omega arith
