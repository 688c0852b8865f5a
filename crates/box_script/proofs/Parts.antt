-- A part of a list is its beginning and its rest, and texts of 14 numbers that stand one after the other are such parts. What is put together so is
-- taken apart again. Assumes nothing.
use Prim.Native.Nat.{ℕ, zero, suc, ◌+◌, ◌-◌, ◌*◌, ◌<◌}
use mathlib.Core.Path.{◌≡◌, refl, sym, ap, ap₂, ◌∙◌}
use mathlib.Core.List.{List, [], ◌∷◌, ◌++◌, append-nil}
use lib.ListN.{length, get_or, set, take, drop, drop_of_length-le}
use lib.Seq.{take_all, take_at, drop_at}
use native.Mathlib.Omega.{arith}
use borrow.Rule.Slice.PartMut.{put_mid}
use Rattle.laws.specs.Tabulate.{tabulate, part}
use Rattle.laws.proofs.Tabulate.{tabulate-ext, tabulate-same, tabulate-none, length-tabulate, part-is}
use Rattle.box_script.specs.State.{joined}

module _ {A : Type 0} where
  pub get_d_tabulate : (n : ℕ) (f : ℕ → A) (i : ℕ) (d : A) → i < n → get_or (tabulate n f) i d ≡ f i
  get_d_tabulate zero f i d h = absurd (omega arith)
  get_d_tabulate (suc n) f zero d h = refl
  get_d_tabulate (suc n) f (suc i) d h = get_d_tabulate n (λ k. f (suc k)) i d (omega arith)

  pub tabulate-get_d : (n : ℕ) (l : List A) (d : A) → length l ≡ n → tabulate n (λ i. get_or l i d) ≡ l
  tabulate-get_d n [] d e = tabulate-none n (λ i. d) (omega arith)
  tabulate-get_d zero (x ∷ xs) d e = absurd (omega arith)
  tabulate-get_d (suc n) (x ∷ xs) d e = ap (λ (l : List A). x ∷ l) (tabulate-get_d n xs d (omega arith))

  tabulate-split : (m n k : ℕ) (f : ℕ → A) → k ≡ m + n → tabulate k f ≡ tabulate m f ++ tabulate n (λ i. f (m + i))
  tabulate-split zero n k f e =
      let all : k ≡ n = omega arith in
      ap (λ (j : ℕ). tabulate j f) all ∙ tabulate-same n f (λ i. f (0 + i)) (λ i. ap f (first i))
    where
      first : (i : ℕ) → i ≡ 0 + i
      first i = omega arith
  tabulate-split (suc m) n k f e =
      let more : k ≡ suc (m + n) = omega arith in
      ap (λ (j : ℕ). tabulate j f) more
      ∙ ap (λ (l : List A). f 0 ∷ l) (tabulate-split m n (m + n) (λ i. f (suc i)) refl)
      ∙ ap (λ (l : List A). f 0 ∷ (tabulate m (λ i. f (suc i)) ++ l)) (tabulate-same n (λ i. f (suc (m + i))) (λ i. f (suc m + i)) (λ i. ap f (next m i)))
    where
      next : (a i : ℕ) → suc (a + i) ≡ suc a + i
      next a i = omega arith

module _ (l : List ℕ) where
  pub part-from : (n at to : ℕ) → at ≡ to → part l at n ≡ part l to n
  part-from n at to e = ap (λ (p : ℕ). part l p n) e

  pub part-split : (m n k at to : ℕ) → k ≡ m + n → to ≡ at + m → part l at k ≡ part l at m ++ part l to n
  part-split m n k at to e f =
      tabulate-split m n k (λ i. get_or l (at + i) 0) e
      ∙ ap (λ (t : List ℕ). part l at m ++ t) (tabulate-same n (λ i. get_or l (at + (m + i)) 0) (λ i. get_or l (to + i) 0) (λ i. ap (λ (p : ℕ). get_or l p 0) (along at m i to f)))
    where
      along : (a b i c : ℕ) → c ≡ a + b → a + (b + i) ≡ c + i
      along a b i c e = omega arith

  pub part-first : (n k at to : ℕ) → k ≡ suc n → to ≡ at + 1 → part l at k ≡ get_or l at 0 ∷ part l to n
  part-first n k at to e f =
      let here : at + 0 ≡ at = omega arith in
      ap (λ (j : ℕ). part l at j) e
      ∙ ap₂ (λ (x : ℕ) (t : List ℕ). x ∷ t) (ap (λ (p : ℕ). get_or l p 0) here)
      (tabulate-same n (λ i. get_or l (at + suc i) 0) (λ i. get_or l (to + i) 0) (λ i. ap (λ (p : ℕ). get_or l p 0) (along at i to f)))
    where
      along : (a i c : ℕ) → c ≡ a + 1 → a + suc i ≡ c + i
      along a i c e = omega arith

  -- a part of a part that is all of it
  pub part-again : (n at : ℕ) → part (part l at n) 0 n ≡ part l at n
  part-again n at =
      tabulate-ext n (λ i. get_or (part l at n) (0 + i) 0) (λ i. get_or l (at + i) 0)
      (λ i h. ap (λ (p : ℕ). get_or (part l at n) p 0) (first i) ∙ get_d_tabulate n (λ k. get_or l (at + k) 0) i 0 h)
    where
      first : (i : ℕ) → 0 + i ≡ i
      first i = omega arith

  pub part-joined : (n k at : ℕ) (text : ℕ → List ℕ) → k ≡ 14 * n → ((i : ℕ) → i < n → text i ≡ part l (at + 14 * i) 14) → joined n text ≡ part l at k
  part-joined zero k at text e same = let none : 0 ≡ k = omega arith in ap (λ (j : ℕ). part l at j) none
  part-joined (suc n) k at text e same =
      ap₂ (λ (s t : List ℕ). s ++ t)
      (same 0 (omega arith) ∙ part-from 14 (at + 14 * 0) at (omega arith))
      (part-joined n (14 * n) (at + 14) (λ i. text (suc i)) refl (λ i h. same (suc i) (omega arith) ∙ part-from 14 (at + 14 * suc i) (at + 14 + 14 * i) (omega arith)))
      ∙ sym (part-split 14 (14 * n) k at (at + 14) (omega arith) refl)

  -- taken apart
  pub part-parts : (m n k at to : ℕ) (a b : List ℕ) → k ≡ m + n → to ≡ at + m → length a ≡ m → part l at k ≡ a ++ b → (part l at m ≡ a) × (part l to n ≡ b)
  part-parts m n k at to a b e f long p =
      let q : part l at m ++ part l to n ≡ a ++ b = sym (part-split m n k at to e f) ∙ p in
      let same : length (part l at m) ≡ m = length-tabulate m (λ i. get_or l (at + i) 0) in (
        sym (take_at (part l at m) (part l to n) m same) ∙ ap (take m) q ∙ take_at a b m long,
        sym (drop_at (part l at m) (part l to n) m same) ∙ ap (drop m) q ∙ drop_at a b m long,
      )

  pub part-cons : (n k at to x : ℕ) (t : List ℕ) → k ≡ suc n → to ≡ at + 1 → part l at k ≡ x ∷ t → (get_or l at 0 ≡ x) × (part l to n ≡ t)
  part-cons n k at to x t e f p =
      let q : get_or l at 0 ∷ part l to n ≡ x ∷ t = sym (part-first n k at to e f) ∙ p in
      (ap (λ (t : List ℕ). get_or t 0 0) q, ap (drop 1) q)

  pub part-texts : (n k at : ℕ) (text : ℕ → List ℕ) → k ≡ 14 * n → ((i : ℕ) → length (text i) ≡ 14) → part l at k ≡ joined n text
      → (i : ℕ) → i < n → part l (at + 14 * i) 14 ≡ text i
  part-texts zero k at text e long p i h = absurd (omega arith)
  part-texts (suc n) k at text e long p zero h =
      part-from 14 (at + 14 * 0) at (omega arith) ∙ (part-parts 14 (14 * n) k at (at + 14) (text 0) (joined n (λ i. text (suc i))) (omega arith) refl (long 0) p).0
  part-texts (suc n) k at text e long p (suc i) h =
      part-from 14 (at + 14 * suc i) (at + 14 + 14 * i) (omega arith)
      ∙ part-texts n (14 * n) (at + 14) (λ i. text (suc i)) refl (λ i. long (suc i))
      (part-parts 14 (14 * n) k at (at + 14) (text 0) (joined n (λ i. text (suc i))) (omega arith) refl (long 0) p).1 i (omega arith)

pub part-whole : (n : ℕ) (l : List ℕ) → length l ≡ n → part l 0 n ≡ l
part-whole n l e = sym (part-is n 0 l (omega arith)) ∙ take_all n l (omega arith)

-- thirteen bytes laid behind a first that was set
pub behind-first : (first : ℕ) (out beside : List ℕ) → length out ≡ 14 → length beside ≡ 13
    → put_mid 1 (length (set out 0 first) - 1) (set out 0 first) beside ≡ first ∷ part beside 0 13
behind-first first [] beside h k = absurd (omega (arith, h))
behind-first first (x ∷ rest) beside h k =
    let none : drop (length (first ∷ rest) - 1) rest ≡ [] = drop_of_length-le rest (omega arith) in
    ap (λ (t : List ℕ). first ∷ t) (ap (λ (t : List ℕ). beside ++ t) none ∙ append-nil beside ∙ sym (part-whole 13 beside k))
