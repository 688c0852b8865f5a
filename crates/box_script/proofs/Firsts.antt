-- The first bytes of parts that stand one after the other: one part more, one that is above the limit, and each of them by its place. Assumes nothing.
use Prim.Native.Nat.{ℕ, zero, suc, ◌+◌, ◌*◌, ◌-◌, ◌≤◌, ◌<◌}
use mathlib.Core.Path.{◌≡◌, refl, sym, ap, ap₂, ◌∙◌}
use mathlib.Core.Bool.{Bool, true, false, ◌&&◌}
use mathlib.Core.List.{List}
use lib.Dec.{leb}
use lib.ListN.{get_or}
use native.Mathlib.Omega.{arith}
use borrow.Author.Tests.{le-leb, lt-leb, leb-true}
use Rattle.laws.proofs.Bools.{and-first-no, and_yes, both_true}
use Rattle.box_script.specs.State.{firsts_within}

module _ (limit : ℕ) (s : List ℕ) where
  moved : (n m at to : ℕ) → n ≡ m → at ≡ to → firsts_within n limit s at ≡ firsts_within m limit s to
  moved n m at to en ep = ap₂ (λ (k p : ℕ). firsts_within k limit s p) en ep

  next : (n at : ℕ) → firsts_within (suc n) limit s at ≡ (leb (get_or s at 0) limit && firsts_within n limit s (at + 14))
  unfolding firsts_within
  next n at = refl

  -- the part that is looked at, of those that are left
  split : (n at i : ℕ) → i < n
      → firsts_within (n - i) limit s (at + 14 * i) ≡ (leb (get_or s (at + 14 * i) 0) limit && firsts_within (n - (i + 1)) limit s (at + 14 * (i + 1)))
  split n at i h =
      moved (n - i) (suc (n - (i + 1))) (at + 14 * i) (at + 14 * i) (omega arith) refl
      ∙ next (n - (i + 1)) (at + 14 * i)
      ∙ ap (λ (b : Bool). leb (get_or s (at + 14 * i) 0) limit && b)
      (moved (n - (i + 1)) (n - (i + 1)) (at + 14 * i + 14) (at + 14 * (i + 1)) refl (omega arith))

  pub firsts_more : (n at i : ℕ) → i < n → get_or s (at + 14 * i) 0 ≤ limit
      → firsts_within (n - i) limit s (at + 14 * i) ≡ firsts_within (n - (i + 1)) limit s (at + 14 * (i + 1))
  firsts_more n at i h small = split n at i h ∙ rw (le-leb (get_or s (at + 14 * i) 0) limit small)

  pub firsts-stop : (n at i : ℕ) → i < n → limit < get_or s (at + 14 * i) 0 → firsts_within (n - i) limit s (at + 14 * i) ≡ false
  firsts-stop n at i h large = split n at i h ∙ and-first-no _ _ (lt-leb (get_or s (at + 14 * i) 0) limit large)

  pub firsts-end : (n at i : ℕ) → n ≡ i → firsts_within (n - i) limit s at ≡ true
  unfolding firsts_within
  firsts-end n at i e = moved (n - i) 0 at at (omega arith) refl

  -- each of them
  pub firsts_at : (n at i : ℕ) → firsts_within n limit s at ≡ true → i < n → get_or s (at + 14 * i) 0 ≤ limit
  firsts_at zero at i e h = absurd (omega arith)
  firsts_at (suc n) at zero e h =
      let here : at + 14 * 0 ≡ at = omega arith in
      let first = leb-true (get_or s at 0) limit (both_true (leb (get_or s at 0) limit) (firsts_within n limit s (at + 14)) (sym (next n at) ∙ e)).0 in
      rw here first
  firsts_at (suc n) at (suc i) e h =
      let there : at + 14 * suc i ≡ at + 14 + 14 * i = omega arith in
      let rest = (both_true (leb (get_or s at 0) limit) (firsts_within n limit s (at + 14)) (sym (next n at) ∙ e)).1 in
      rw there (firsts_at n (at + 14) i rest (omega arith))

  pub firsts-all : (n at : ℕ) → ((i : ℕ) → i < n → get_or s (at + 14 * i) 0 ≤ limit) → firsts_within n limit s at ≡ true
  firsts-all zero at each = firsts-end 0 at 0 refl
  firsts-all (suc n) at each =
      let here : at + 14 * 0 ≡ at = omega arith in
      let first : get_or s at 0 ≤ limit = rw here at (each 0 (omega arith)) in
      next n at
      ∙ and_yes (leb (get_or s at 0) limit) (firsts_within n limit s (at + 14)) (le-leb (get_or s at 0) limit first)
      (firsts-all n (at + 14) (λ i h. let there : at + 14 + 14 * i ≡ at + 14 * suc i = omega arith in rw there (each (suc i) (omega arith))))
