-- Characters from the highest position down: as many as positions, each at its place, and the same where each position's is. Assumes nothing.
use Prim.Native.Nat.{ℕ, zero, suc, ◌-◌, ◌<◌}
use mathlib.Core.Path.{◌≡◌, refl, ap, ap₂, ◌∙◌}
use mathlib.Core.List.{List, ◌∷◌}
use lib.ListN.{length, get_or, take, drop}
use lib.Seq.{take_at}
use native.Mathlib.Nat.{not-suc-le-zero, le_of_suc-le-suc}
use native.Mathlib.Omega.{arith}
use Rattle.laws.specs.Laid.{laid_first}
use Rattle.filter_list.specs.Pattern.{down_from}

pub down-length : (n : ℕ) (f : ℕ → ℕ) → length (down_from n f) ≡ n
down-length zero f = refl
down-length (suc n) f = ap suc (down-length n f)

pub down-at : (n : ℕ) (f : ℕ → ℕ) (i : ℕ) → i < n → get_or (down_from n f) i 0 ≡ f (n - 1 - i)
down-at zero f i h = absurd (not-suc-le-zero h)
down-at (suc n) f zero h = ap f (omega arith)
down-at (suc n) f (suc i) h = down-at n f i (le_of_suc-le-suc h) ∙ ap f (omega arith)

-- where they are laid into the front of a list, they are that front
pub down-front : (n : ℕ) (f : ℕ → ℕ) (out now : List ℕ) → now ≡ laid_first (down_from n f) out → take n now ≡ down_from n f
down-front n f out now e = ap (take n) e ∙ take_at (down_from n f) (drop (length (down_from n f)) out) n (down-length n f)

pub down-same : (n : ℕ) (f g : ℕ → ℕ) → ((k : ℕ) → k < n → f k ≡ g k) → down_from n f ≡ down_from n g
down-same zero f g e = refl
down-same (suc n) f g e = ap₂ (λ (c : ℕ) (cs : List ℕ). c ∷ cs) (e n (omega arith)) (down-same n f g (λ k h. e k (omega arith)))
