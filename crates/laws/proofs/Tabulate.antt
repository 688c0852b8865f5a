-- A list by its places: two that agree place by place, the first and the last place, and a part of a list. Assumes nothing.
use Prim.Native.Nat.{ℕ, zero, suc, ◌+◌, ◌-◌, ◌≤◌, ◌<◌}
use mathlib.Core.Path.{◌≡◌, refl, ap, ◌∙◌}
use mathlib.Core.List.{List, [], ◌∷◌, ◌++◌}
use lib.ListN.{length, get_or, take, drop}
use lib.Seq.{drop-cons}
use native.Mathlib.Nat.{add-zero}
use native.Mathlib.Omega.{arith}
use Rattle.laws.specs.Row.{bytes, Fit, none, field}
use Rattle.laws.specs.Tabulate.{tabulate, part}

module _ {A : Type 0} where
  pub tabulate-ext : (n : ℕ) (f g : ℕ → A) → ((i : ℕ) → i < n → f i ≡ g i) → tabulate n f ≡ tabulate n g
  tabulate-ext zero f g same = refl
  tabulate-ext (suc n) f g same =
      rw (same 0 (omega arith), tabulate-ext n (λ i. f (suc i)) (λ i. g (suc i)) (λ i l. same (suc i) (omega arith)))

  pub tabulate-same : (n : ℕ) (f g : ℕ → A) → ((i : ℕ) → f i ≡ g i) → tabulate n f ≡ tabulate n g
  tabulate-same n f g same = tabulate-ext n f g (λ i l. same i)

  pub tabulate-snoc : (n : ℕ) (f : ℕ → A) → tabulate (suc n) f ≡ tabulate n f ++ (f n ∷ [])
  tabulate-snoc zero f = refl
  tabulate-snoc (suc n) f = ap (λ (l : List A). f 0 ∷ l) (tabulate-snoc n (λ i. f (suc i)))

  pub tabulate-cons : (n : ℕ) (f : ℕ → A) → 0 < n → tabulate n f ≡ f 0 ∷ tabulate (n - 1) (λ i. f (suc i))
  tabulate-cons zero f h = absurd (omega arith)
  tabulate-cons (suc n) f h = let e : suc n - 1 ≡ n = omega arith in rw e

  pub tabulate-none : (n : ℕ) (f : ℕ → A) → n ≤ 0 → tabulate n f ≡ []
  tabulate-none zero f h = refl
  tabulate-none (suc n) f h = absurd (omega arith)

  pub length-tabulate : (n : ℕ) (f : ℕ → A) → length (tabulate n f) ≡ n
  length-tabulate zero f = refl
  length-tabulate (suc n) f = ap suc (length-tabulate n (λ i. f (suc i)))

pub part-is : (n at : ℕ) (l : List ℕ) → at + n ≤ length l → take n (drop at l) ≡ part l at n
part-is zero at l h = refl
part-is (suc n) at l h =
    ap (take (suc n)) (drop-cons l at 0 (omega arith))
    ∙ rw (part-is n (suc at) l (omega arith), add-zero at)
    (ap (λ (t : List ℕ). get_or l at 0 ∷ t)
    (tabulate-same n (λ i. get_or l (suc at + i) 0) (λ i. get_or l (at + suc i) 0)
    (λ i. ap (λ (k : ℕ). get_or l k 0) (shift at i))))
  where
    shift : (a i : ℕ) → suc a + i ≡ a + suc i
    shift a i = omega arith

-- bytes fit a row of bytes
pub bytes_fit : (n : ℕ) (f : ℕ → ℕ) → ((i : ℕ) → f i < 256) → Fit (bytes n) (tabulate n f)
bytes_fit zero f small = none
bytes_fit (suc n) f small = field 8 (f 0) (small 0) (bytes_fit n (λ i. f (suc i)) (λ i. small (suc i)))
