-- Characters that are asked for and shown, taken apart: a front against a front of the same length, and what is left. Assumes nothing.
use Prim.Native.Nat.{ℕ}
use mathlib.Core.Path.{◌≡◌, refl, ap, ◌∙◌}
use mathlib.Core.Bool.{Bool, true, false, ◌&&◌}
use mathlib.Core.List.{List, [], ◌∷◌, ◌++◌}
use lib.ListN.{length}
use native.Mathlib.Omega.{arith}
use Rattle.filter_matcher.specs.Match.{fits, all_fit}

pub all_split : (a b s t : List ℕ) → length a ≡ length s → all_fit (a ++ b) (s ++ t) ≡ (all_fit a s && all_fit b t)
unfolding all_fit
all_split [] b [] t e = refl
all_split [] b (x ∷ s) t e = absurd (omega arith)
all_split (c ∷ a) b [] t e = absurd (omega arith)
all_split (c ∷ a) b (x ∷ s) t e = ap (λ (r : Bool). fits c x && r) (all_split a b s t (omega arith)) ∙ by (fits c x)
  where
    by : (p : Bool) → (p && (all_fit a s && all_fit b t)) ≡ ((p && all_fit a s) && all_fit b t)
    by true = refl
    by false = refl
