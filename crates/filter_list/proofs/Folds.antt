-- The fold of a list tells each position's character: a position is not among the differing ones exactly if each entry has the first one's bit there.
-- And the first entry above the limit, where there is one. Assumes nothing.
use Prim.Native.Nat.{ℕ, zero, suc, ◌+◌, ◌≤◌, ◌<◌, max}
use mathlib.Core.Path.{◌≡◌, refl, sym, ap, ap₂, ◌∙◌}
use mathlib.Core.Bool.{Bool, true, false, cond, not, ◌&&◌}
use mathlib.Core.List.{List, [], ◌∷◌}
use lib.Bits.{bit_and, bit_or, bit_xor, differ}
use lib.Dec.{eqb, ltb, leb}
use lib.ListN.{length, get_or, drop}
use lib.Seq.{drop-cons, drop-length}
use native.Mathlib.Decide.{ℕ_discrete}
use native.Mathlib.Numerals.{add-one}
use native.Mathlib.Omega.{arith}
use borrow.Author.Tests.{eqb-true, eqb-false, le-leb, lt-leb, true-ltb, ltb-true, ltb-false}
use Rattle.std.specs.Prelude.{Some, None}
use Rattle.std.specs.List.{position_or_len}
use Rattle.std.proofs.lemmas.Option.{none-some, cond_some}
use Rattle.laws.specs.Bits.{bit_at}
use Rattle.laws.proofs.Bits.{bit-lt, bit-zero, bit-or, bit-and, bit-xor, differ_same}
use Rattle.filter_list.specs.Pattern.{all_have, character_at, character_by}
use Rattle.filter_list.specs.Answers.{first_above, above_in}

-- ---- a fold
unfoldable pub fold_from : (ℕ → ℕ → ℕ) → ℕ → List ℕ → ℕ
fold_from add d [] = d
fold_from add d (n ∷ list) = fold_from add (add d n) list

module _ (add : ℕ → ℕ → ℕ) (s : List ℕ) (i d v : ℕ) where
  pub fold_end : length s ≤ i → i ≤ length s → fold_from add d (drop i s) ≡ v → d ≡ v
  unfolding fold_from
  fold_end h k e =
      let all : i ≡ length s = omega arith in
      let done : fold_from add d (drop i s) ≡ d = rw (all, drop-length) in
      sym done ∙ e

  pub fold-turn : i < length s → fold_from add d (drop i s) ≡ v → fold_from add (add d (get_or s i 0)) (drop (i + 1) s) ≡ v
  unfolding fold_from
  fold-turn h e = rw add-one (sym (rw (drop-cons s i 0)) ∙ e)

-- the bits that all entries have, and the positions where some differ from the first
abbrev pub agreed_from : ℕ → List ℕ → ℕ
agreed_from a list = fold_from bit_and a list

abbrev pub differing_from : ℕ → ℕ → List ℕ → ℕ
differing_from first d list = fold_from (λ m n. bit_or m (bit_xor first n)) d list

-- a bit stays in the agreed ones where each entry has it
agreed-at : (k a : ℕ) (list : List ℕ) → bit_at (agreed_from a list) k ≡ cond (all_have 1 k list) (bit_at a k) 0
unfolding fold_from
agreed-at k a [] = refl
agreed-at k a (n ∷ list) = agreed-at k (bit_and a n) list ∙ by (eqb (bit_at n k) 1) (all_have 1 k list) refl
  where
    by : (t rest : Bool) → eqb (bit_at n k) 1 ≡ t → cond rest (bit_at (bit_and a n) k) 0 ≡ cond (t && rest) (bit_at a k) 0
    by true false q = refl
    by true true q = bit-and a n k ∙ omega (arith, bit-lt a k, eqb-true (bit_at n k) 1 q)
    by false false q = refl
    by false true q = bit-and a n k ∙ omega (arith, bit-lt n k, eqb-false (bit_at n k) 1 q)

-- two digits that are not equal
apart : (a b : ℕ) → a < 2 → b < 2 → (a ≡ b → ⊥) → differ a b ≡ 1
apart zero zero ha hb n = absurd (n refl)
apart zero (suc b) ha hb n = omega arith
apart (suc a) zero ha hb n = omega arith
apart (suc a) (suc b) ha hb n = absurd (n (omega arith))

-- a position is added to the differing ones where an entry has another bit than the first
differing-at : (first k d : ℕ) (list : List ℕ) → bit_at (differing_from first d list) k ≡ cond (all_have (bit_at first k) k list) (bit_at d k) 1
unfolding fold_from
differing-at first k d [] = refl
differing-at first k d (n ∷ list) =
    differing-at first k (bit_or d (bit_xor first n)) list
    ∙ by (eqb (bit_at n k) (bit_at first k)) (all_have (bit_at first k) k list) refl
  where
    laid : bit_at (bit_or d (bit_xor first n)) k ≡ max (bit_at d k) (differ (bit_at first k) (bit_at n k))
    laid = bit-or d (bit_xor first n) k ∙ ap (max (bit_at d k)) (bit-xor first n k)

    by : (t rest : Bool) → eqb (bit_at n k) (bit_at first k) ≡ t
        → cond rest (bit_at (bit_or d (bit_xor first n)) k) 1 ≡ cond (t && rest) (bit_at d k) 1
    by true false q = refl
    by true true q =
        let same : differ (bit_at first k) (bit_at n k) ≡ 0 = ap (differ (bit_at first k)) (eqb-true _ _ q) ∙ differ_same (bit_at first k) in
        laid ∙ omega arith
    by false false q = refl
    by false true q =
        let other : differ (bit_at first k) (bit_at n k) ≡ 1 = apart _ _ (bit-lt first k) (bit-lt n k) (λ e. eqb-false _ _ q (sym e)) in
        laid ∙ omega (arith, bit-lt d k)

-- ---- the characters
pub folded : (first k : ℕ) (rest : List ℕ) → character_by (agreed_from first rest) (differing_from first 0 rest) k ≡ character_at (first ∷ rest) k
unfolding character_at
folded first k rest =
    ap₂ (λ (d a : ℕ). cond (eqb d 1) 120 (48 + a)) (differing-at first k 0 rest ∙ ap (λ (x : ℕ). cond (all_have (bit_at first k) k rest) x 1) (bit-zero k)) (agreed-at k first rest)
    ∙ elim (ℕ_discrete (bit_at first k) 0) [ yes e ↦ zeros e | no n ↦ ones (omega (arith, bit-lt first k)) ]
  where
    told : ℕ → ℕ
    told b = cond (eqb (cond (all_have b k rest) 0 1) 1) 120 (48 + cond (all_have 1 k rest) b 0)

    zeros : bit_at first k ≡ 0 → told (bit_at first k) ≡ character_at (first ∷ rest) k
    zeros e = ap told e ∙ rw e (by (all_have 0 k rest) (all_have 1 k rest))
      where
        by : (b c : Bool) → ◌≡◌ {A = ℕ} (cond (eqb (cond b 0 1) 1) 120 (48 + cond c 0 0)) (cond b 48 120)
        by true true = refl
        by true false = refl
        by false c = refl

    ones : bit_at first k ≡ 1 → told (bit_at first k) ≡ character_at (first ∷ rest) k
    ones e = ap told e ∙ rw e (by (all_have 1 k rest))
      where
        by : (b : Bool) → ◌≡◌ {A = ℕ} (cond (eqb (cond b 0 1) 1) 120 (48 + cond b 1 0)) (cond b 49 120)
        by true = refl
        by false = refl

-- ---- the first entry above the limit, as the library's words have it
pub above-first : (limit : ℕ) (s : List ℕ) → first_above limit s ≡ position_or_len (λ (n : ℕ). ltb limit n) s
unfolding first_above
above-first limit [] = refl
above-first limit (n ∷ s) = by (ltb limit n) refl (above-first limit s)
  where
    by : (over : Bool) → ltb limit n ≡ over → first_above limit s ≡ position_or_len (λ (m : ℕ). ltb limit m) s
        → cond (leb n limit) (suc (first_above limit s)) 0 ≡ cond (not over) (1 + position_or_len (λ (m : ℕ). ltb limit m) s) 0
    by true q r = rw (lt-leb n limit (omega (arith, ltb-true limit n q)))
    by false q r = rw (le-leb n limit (omega (arith, ltb-false limit n q))) (omega (arith, r))

-- an entry is above, or none is
pub above-there : (limit : ℕ) (s : List ℕ) (at : ℕ) → above_in limit s ≡ Some at → (first_above limit s ≡ at) × (at < length s)
above-there limit s at e =
    let found = cond_some (ltb (first_above limit s) (length s)) (first_above limit s) at e in
    (found.1, omega (arith, found.1, true-ltb (first_above limit s) (length s) (sym found.0)))

pub above-none : (limit : ℕ) (s : List ℕ) → above_in limit s ≡ None → length s ≤ first_above limit s
above-none limit s e = by (ltb (first_above limit s) (length s)) refl e
  where
    by : (b : Bool) → ltb (first_above limit s) (length s) ≡ b → cond b (Some (first_above limit s)) None ≡ None → length s ≤ first_above limit s
    by true q r = absurd (none-some (first_above limit s) (sym r))
    by false q r = ltb-false (first_above limit s) (length s) q
