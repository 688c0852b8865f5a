-- Bytes judged one after the other: the first that is no pattern character, and that there is one where not all are. Assumes nothing.
use Prim.Native.Nat.{ℕ, suc, ◌+◌, ◌≤◌, ◌<◌}
use mathlib.Core.Path.{◌≡◌, refl, sym, ◌∙◌}
use mathlib.Core.Bool.{Bool, true, false, cond, not, ◌&&◌}
use mathlib.Core.List.{List, [], ◌∷◌}
use lib.Dec.{ltb, leb-suc-suc}
use lib.ListN.{length}
use native.Mathlib.Omega.{arith}
use borrow.Author.Tests.{ne_eqb, lt-ltb, true-ltb, ltb-false}
use Rattle.std.specs.Prelude.{Some, None}
use Rattle.std.proofs.lemmas.Option.{none-some, cond_some}
use Rattle.std.specs.List.{fold, prefix_len}
use Rattle.filter_characters.specs.Characters.{is_character, all_characters, bad_at, first_bad_in}

pub character-none : (c : ℕ) → (c ≡ 48 → ⊥) → (c ≡ 49 → ⊥) → (c ≡ 120 → ⊥) → is_character c ≡ false
character-none c n m k = rw (ne_eqb c 48 n, ne_eqb c 49 m, ne_eqb c 120 k)

-- ---- all are pattern characters, or there is a first that is none
pub all-or-bad : (s : List ℕ) → ltb (bad_at s) (length s) ≡ not (all_characters s)
unfolding bad_at
all-or-bad [] = refl
all-or-bad (c ∷ s) = cases (is_character c) (all-or-bad s)
  where
    cases : (b : Bool) → ltb (bad_at s) (length s) ≡ not (all_characters s)
        → ltb (cond b (suc (bad_at s)) 0) (suc (length s)) ≡ not (b && all_characters s)
    cases true r = leb-suc-suc (suc (bad_at s)) (length s) ∙ r
    cases false r = lt-ltb 0 (suc (length s)) (omega arith)

-- ---- the first that is none, or none
pub first-there : (s : List ℕ) (n : ℕ) → first_bad_in s ≡ Some n → (bad_at s ≡ n) × (n < length s)
first-there s n e =
    let found = cond_some (ltb (bad_at s) (length s)) (bad_at s) n e in
    (found.1, omega (arith, found.1, true-ltb (bad_at s) (length s) (sym found.0)))

pub first-none : (s : List ℕ) → first_bad_in s ≡ None → length s ≤ bad_at s
first-none s e = by (ltb (bad_at s) (length s)) refl e
  where
    by : (b : Bool) → ltb (bad_at s) (length s) ≡ b → cond b (Some (bad_at s)) None ≡ None → length s ≤ bad_at s
    by true q r = absurd (none-some (bad_at s) (sym r))
    by false q r = ltb-false (bad_at s) (length s) q

-- ---- as the library's words have them
pub bad-prefix : (s : List ℕ) → bad_at s ≡ prefix_len (λ (c : ℕ). not (not (is_character c))) s
unfolding bad_at
bad-prefix [] = refl
bad-prefix (c ∷ s) = cases (is_character c) (bad-prefix s)
  where
    cases : (b : Bool) → bad_at s ≡ prefix_len (λ (c : ℕ). not (not (is_character c))) s
        → cond b (suc (bad_at s)) 0 ≡ cond (not (not b)) (1 + prefix_len (λ (c : ℕ). not (not (is_character c))) s) 0
    cases true r = omega (arith, r)
    cases false r = refl

pub all-folded : (s : List ℕ) (all : Bool) → fold (λ (a : Bool) (c : ℕ). a && is_character c) all s ≡ (all && all_characters s)
all-folded [] true = refl
all-folded [] false = refl
all-folded (c ∷ s) true = all-folded s (is_character c)
all-folded (c ∷ s) false = all-folded s false
