-- The law of every filter: over any row of distinct positions, a code and a mask made from pattern characters agree with a word on each
-- compared bit exactly if each character other than `x` equals the word's bit at its position. For each position is that of one place, or of none.
-- Assumes nothing.
use Prim.Native.Nat.{ℕ, zero, suc, ◌+◌, ◌*◌, ◌^◌, ◌<◌, max}
use mathlib.Core.Path.{◌≡◌, sym, ap, ap₂, ◌∙◌, subst}
use mathlib.Core.Logic.{◌≢◌, ◌⊎◌, inl, inr, ◌↔◌}
use mathlib.Core.Bool.{not}
use mathlib.Core.List.{List, [], ◌∷◌}
use lib.Bits.{or_lt}
use lib.Dec.{T, eqb, eqb_refl, T_not, ltb, ltb→lt}
use lib.ListN.{length, get_or}
use lib.Pow.{shl_lt, pow_mono}
use native.Mathlib.Nat.{not-suc-le-zero, le_of_suc-le-suc, max-zero, zero-max}
use native.Mathlib.Decide.{ℕ_discrete}
use native.Mathlib.Omega.{arith}
use Rattle.laws.specs.Bits.{bit_at}
use Rattle.laws.proofs.Bools.{both_left, both_right}
use Rattle.laws.proofs.Bits.{bit-zero, bit-or, bit-here, bit-there}
use Rattle.filter_characters.specs.Characters.{is_character, all_characters}
use Rattle.filter_registers.specs.Meaning.{Agree}
use Rattle.filter_compilers.specs.Words.{one, care, word_of, code_of, mask_of}
use Rattle.filter_compilers.specs.Meaning.{fresh, distinct, within, Matches}
use Rattle.filter_compilers.proofs.Characters.{one-lt, care-lt, care-is, care-not, value}

fresh_at : (p : ℕ) (qs : List ℕ) → T (fresh p qs) → (i : ℕ) → i < length qs → p ≢ get_or qs i 0
fresh_at p [] t i h e = absurd (not-suc-le-zero h)
fresh_at p (q ∷ qs) t zero h e = T_not (eqb p q) (both_left (not (eqb p q)) (fresh p qs) t) (subst (λ (x : ℕ). T (eqb p x)) e (eqb_refl p))
fresh_at p (q ∷ qs) t (suc i) h e = fresh_at p qs (both_right (not (eqb p q)) (fresh p qs) t) i (le_of_suc-le-suc h) e

-- ---- a word filled from characters, each of which gives a bit
module _ (digit : ℕ → ℕ) (small : (c : ℕ) → digit c < 2) where
  -- a position that no place has is 0
  pub off : (ps cs : List ℕ) (k : ℕ) → ((i : ℕ) → i < length ps → k ≢ get_or ps i 0) → bit_at (word_of digit ps cs) k ≡ 0
  unfolding word_of
  off [] cs k h = bit-zero k
  off (p ∷ ps) [] k h = bit-zero k
  off (p ∷ ps) (c ∷ cs) k h =
      bit-or (digit c * 2 ^ p) (word_of digit ps cs) k
      ∙ ap₂ max (bit-there (digit c) p k (small c) (λ e. h 0 (omega arith) (sym e))) (off ps cs k (λ i hi. h (suc i) (omega arith)))

  -- the position of a place has the bit of the character there
  pub at : (ps cs : List ℕ) → T (distinct ps) → (i : ℕ) → i < length ps → i < length cs → bit_at (word_of digit ps cs) (get_or ps i 0) ≡ digit (get_or cs i 0)
  unfolding word_of
  at [] cs t i hp hc = absurd (not-suc-le-zero hp)
  at (p ∷ ps) [] t i hp hc = absurd (not-suc-le-zero hc)
  at (p ∷ ps) (c ∷ cs) t zero hp hc =
      bit-or (digit c * 2 ^ p) (word_of digit ps cs) p
      ∙ ap₂ max (bit-here (digit c) p (small c)) (off ps cs p (fresh_at p ps (both_left (fresh p ps) (distinct ps) t)))
      ∙ max-zero (digit c)
  at (p ∷ ps) (c ∷ cs) t (suc i) hp hc =
      let other : p ≢ get_or ps i 0 = fresh_at p ps (both_left (fresh p ps) (distinct ps) t) i (le_of_suc-le-suc hp) in
      bit-or (digit c * 2 ^ p) (word_of digit ps cs) (get_or ps i 0)
      ∙ ap₂ max
      (bit-there (digit c) p (get_or ps i 0) (small c) other)
      (at ps cs (both_right (fresh p ps) (distinct ps) t) i (le_of_suc-le-suc hp) (le_of_suc-le-suc hc))
      ∙ zero-max (digit (get_or cs i 0))

  -- positions below 32 make a word
  pub word_lt : (ps cs : List ℕ) → T (within ps) → word_of digit ps cs < 2 ^ 32
  unfolding word_of
  word_lt [] cs t = omega arith
  word_lt (p ∷ ps) [] t = omega arith
  word_lt (p ∷ ps) (c ∷ cs) t =
      let hp : p < 32 = ltb→lt p 32 (both_left (ltb p 32) (within ps) t) in
      or_lt 32 (digit c * 2 ^ p) (word_of digit ps cs)
      (omega (arith, shl_lt 1 p (small c), pow_mono {i = 1 + p} {j = 32} (omega arith)))
      (word_lt ps cs (both_right (ltb p 32) (within ps) t))

pub character-at : (cs : List ℕ) → T (all_characters cs) → (i : ℕ) → i < length cs → T (is_character (get_or cs i 0))
character-at [] t i h = absurd (not-suc-le-zero h)
character-at (c ∷ cs) t zero h = both_left (is_character c) (all_characters cs) t
character-at (c ∷ cs) t (suc i) h = character-at cs (both_right (is_character c) (all_characters cs) t) i (le_of_suc-le-suc h)

-- a position has a place, or none has it
pub where-is : (k : ℕ) (ps : List ℕ) → ((i : ℕ) × (i < length ps) × (k ≡ get_or ps i 0)) ⊎ ((i : ℕ) → i < length ps → k ≢ get_or ps i 0)
where-is k [] = inr (λ i h. absurd (not-suc-le-zero h))
where-is k (p ∷ ps) = step (ℕ_discrete k p) (where-is k ps)
  where
    step : Dec (k ≡ p) → ((i : ℕ) × (i < length ps) × (k ≡ get_or ps i 0)) ⊎ ((i : ℕ) → i < length ps → k ≢ get_or ps i 0)
        → ((i : ℕ) × (i < length (p ∷ ps)) × (k ≡ get_or (p ∷ ps) i 0)) ⊎ ((i : ℕ) → i < length (p ∷ ps) → k ≢ get_or (p ∷ ps) i 0)
    step (yes e) r = inl (0, omega arith, e)
    step (no n) (inl (i, h, e)) = inl (suc i, omega arith, e)
    step (no n) (inr h) = inr none
      where
        none : (i : ℕ) → i < length (p ∷ ps) → k ≢ get_or (p ∷ ps) i 0
        none zero hi = n
        none (suc i) hi = h i (le_of_suc-le-suc hi)

-- ---- the law
module _ (ps cs : List ℕ) (apart : T (distinct ps)) (whole : length cs ≡ length ps) where
  pub code_at : (i : ℕ) → i < length cs → bit_at (code_of ps cs) (get_or ps i 0) ≡ one (get_or cs i 0)
  code_at i h = at one one-lt ps cs apart i (omega arith) h

  pub mask_at : (i : ℕ) → i < length cs → bit_at (mask_of ps cs) (get_or ps i 0) ≡ care (get_or cs i 0)
  mask_at i h = at care care-lt ps cs apart i (omega arith) h

  module _ (good : T (all_characters cs)) where
    to : (w : ℕ) → Agree (code_of ps cs) (mask_of ps cs) w → Matches ps cs w
    to w a i h n =
        value (get_or cs i 0) (character-at cs good i h) n
        ∙ ap (λ (x : ℕ). 48 + x) (sym (code_at i h) ∙ a (get_or ps i 0) (mask_at i h ∙ care-is (get_or cs i 0) n))

    from : (w : ℕ) → Matches ps cs w → Agree (code_of ps cs) (mask_of ps cs) w
    from w m k e = elim (where-is k ps) [ inl (i, h, p) ↦ found i h p | inr none ↦ missing none ]
      where
        found : (i : ℕ) → i < length ps → k ≡ get_or ps i 0 → bit_at (code_of ps cs) k ≡ bit_at w k
        found i h p =
            let hc : i < length cs = omega arith in
            let compared : care (get_or cs i 0) ≡ 1 = sym (mask_at i hc) ∙ ap (bit_at (mask_of ps cs)) (sym p) ∙ e in
            let other : (get_or cs i 0 ≡ 120 → ⊥) = λ x. (let z : ◌≡◌ {A = ℕ} 0 1 = sym (care-not (get_or cs i 0) x) ∙ compared in omega arith) in
            let v : get_or cs i 0 ≡ 48 + one (get_or cs i 0) = value (get_or cs i 0) (character-at cs good i hc) other in
            let u : get_or cs i 0 ≡ 48 + bit_at w (get_or ps i 0) = m i hc other in
            let same : one (get_or cs i 0) ≡ bit_at w (get_or ps i 0) = omega arith in
            ap (bit_at (code_of ps cs)) p ∙ code_at i hc ∙ same ∙ ap (bit_at w) (sym p)

        missing : ((i : ℕ) → i < length ps → k ≢ get_or ps i 0) → bit_at (code_of ps cs) k ≡ bit_at w k
        missing none =
            let z : ◌≡◌ {A = ℕ} 0 1 = sym (off care care-lt ps cs k none) ∙ e in
            absurd (omega arith)

    pub law : (w : ℕ) → Agree (code_of ps cs) (mask_of ps cs) w ↔ Matches ps cs w
    law w = (to w, from w)
