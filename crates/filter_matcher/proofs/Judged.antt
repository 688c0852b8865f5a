-- What is answered by kind, from a kind that was judged: refusal 7 stays, and a verdict is asked by the kind that the byte names. Assumes nothing.
use Prim.Native.Nat.{ℕ}
use mathlib.Core.Path.{◌≡◌}
use mathlib.Core.Bool.{Bool, true, false, cond}
use mathlib.Core.List.{List, [], ◌∷◌}
use lib.Dec.{eqb, ltb}
use Rattle.laws.specs.Said.{Said, refuses, gives}
use Rattle.filter_matcher.specs.Words.{by_kind}

module _ (byte : ℕ) (verdict : Bool → Bool) where
  pub judged_given : (dual : Bool) → gives dual ≡ by_kind byte (λ d. d) → gives (verdict dual) ≡ by_kind byte verdict
  judged_given dual = by (ltb 1 byte)
    where
      by : (over : Bool) → gives dual ≡ cond {A = Said Bool} over (refuses 7 (0 ∷ [])) (gives (eqb byte 1))
          → gives (verdict dual) ≡ cond {A = Said Bool} over (refuses 7 (0 ∷ [])) (gives (verdict (eqb byte 1)))
      by true e = cc
      by false e = cc

  pub judged_refused : (number : ℕ) (carried : List ℕ) → refuses number carried ≡ by_kind byte (λ d. d) → refuses number carried ≡ by_kind byte verdict
  judged_refused number carried = by (ltb 1 byte)
    where
      by : (over : Bool) → refuses number carried ≡ cond {A = Said Bool} over (refuses 7 (0 ∷ [])) (gives (eqb byte 1))
          → refuses number carried ≡ cond {A = Said Bool} over (refuses 7 (0 ∷ [])) (gives (verdict (eqb byte 1)))
      by true e = e
      by false e = cc
