-- The lengths of patterns, judged one after the other: the first that is wrong is named, or all are right. Assumes nothing.
use Prim.Native.Nat.{ℕ, suc, ◌+◌, ◌<◌}
use mathlib.Core.Path.{◌≡◌, refl, ap, ◌∙◌}
use mathlib.Core.Bool.{Bool, true, false, cond}
use mathlib.Core.List.{List, [], ◌∷◌}
use lib.Dec.{eqb}
use lib.ListN.{length, get_or, drop}
use lib.Seq.{drop-cons, drop-length}
use native.Mathlib.Numerals.{add-one}
use native.Mathlib.Omega.{arith}
use borrow.Author.Tests.{eqb-true, eq-eqb, ne_eqb}
use Rattle.laws.specs.Said.{Said, refuses, gives}
use Rattle.filter_compilers.specs.Answers.{lengths_of}

pub lengths-same : (field : ℕ) (ns : List ℕ) (rest : Said ℕ) → lengths_of field ns ns rest ≡ rest
lengths-same field [] rest = refl
lengths-same field (n ∷ ns) rest = rw (eq-eqb n n refl) (lengths-same (suc field) ns rest)

pub lengths-stop : (field : ℕ) (ns ls : List ℕ) (rest : Said ℕ) (k : ℕ) (v : List ℕ) → lengths_of field ns ls (gives 8) ≡ refuses k v
    → lengths_of field ns ls rest ≡ refuses k v
lengths-stop field [] [] rest k v e = absurd (let z : ◌≡◌ {A = ℕ} 0 1 = cc in omega arith)
lengths-stop field [] (l ∷ ls) rest k v e = e
lengths-stop field (n ∷ ns) [] rest k v e = e
lengths-stop field (n ∷ ns) (l ∷ ls) rest k v e = cases (eqb l n) (lengths-stop (suc field) ns ls rest k v) e
  where
    cases : (t : Bool) → (lengths_of (suc field) ns ls (gives 8) ≡ refuses k v → lengths_of (suc field) ns ls rest ≡ refuses k v)
        → cond t (lengths_of (suc field) ns ls (gives 8)) (refuses 4 (field ∷ [])) ≡ refuses k v
        → cond t (lengths_of (suc field) ns ls rest) (refuses 4 (field ∷ [])) ≡ refuses k v
    cases true r p = r p
    cases false r p = p

pub lengths-given : (field : ℕ) (ns ls : List ℕ) (rest : Said ℕ) → lengths_of field ns ls rest ≡ gives 8 → (ls ≡ ns) × (rest ≡ gives 8)
lengths-given field [] [] rest e = (refl, e)
lengths-given field [] (l ∷ ls) rest e = absurd (let z : ◌≡◌ {A = ℕ} 0 1 = cc in omega arith)
lengths-given field (n ∷ ns) [] rest e = absurd (let z : ◌≡◌ {A = ℕ} 0 1 = cc in omega arith)
lengths-given field (n ∷ ns) (l ∷ ls) rest e = cases (eqb l n) refl (lengths-given (suc field) ns ls rest) e
  where
    cases : (t : Bool) → eqb l n ≡ t → (lengths_of (suc field) ns ls rest ≡ gives 8 → (ls ≡ ns) × (rest ≡ gives 8))
        → cond t (lengths_of (suc field) ns ls rest) (refuses 4 (field ∷ [])) ≡ gives 8 → (l ∷ ls ≡ n ∷ ns) × (rest ≡ gives 8)
    cases true q r p = (rw (eqb-true l n q, (r p).0), (r p).1)
    cases false q r p = absurd (let z : ◌≡◌ {A = ℕ} 0 1 = cc in omega arith)

-- ---- one field after the other
pub lengths-next : (k : ℕ) (ns ls : List ℕ) (rest : Said ℕ) → k < length ns → k < length ls → get_or ls k 0 ≡ get_or ns k 0
    → lengths_of k (drop k ns) (drop k ls) rest ≡ lengths_of (k + 1) (drop (k + 1) ns) (drop (k + 1) ls) rest
lengths-next k ns ls rest hn hl e = rw (drop-cons ns k 0, drop-cons ls k 0, eq-eqb (get_or ls k 0) (get_or ns k 0) e, add-one)

pub lengths-wrong : (k : ℕ) (ns ls : List ℕ) (rest : Said ℕ) → k < length ns → k < length ls → (get_or ls k 0 ≡ get_or ns k 0 → ⊥)
    → lengths_of k (drop k ns) (drop k ls) rest ≡ refuses 4 (k ∷ [])
lengths-wrong k ns ls rest hn hl n = rw (drop-cons ns k 0, drop-cons ls k 0, ne_eqb (get_or ls k 0) (get_or ns k 0) n)

pub lengths-end : (k : ℕ) (ns ls : List ℕ) (rest : Said ℕ) → k ≡ length ns → k ≡ length ls → lengths_of k (drop k ns) (drop k ls) rest ≡ rest
lengths-end k ns ls rest n l =
    let no_width : drop k ns ≡ [] = ap (λ (j : ℕ). drop j ns) n ∙ drop-length ns in
    let no_length : drop k ls ≡ [] = ap (λ (j : ℕ). drop j ls) l ∙ drop-length ls in
    rw (no_width, no_length)
