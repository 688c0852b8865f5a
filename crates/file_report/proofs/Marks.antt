-- One turn of the loop over the filters, by the verdicts so far; and a frame's whole line. Assumes nothing.
use Prim.Native.Nat.{ℕ, ◌+◌, ◌≤◌, ◌<◌}
use mathlib.Core.Path.{◌≡◌, refl, sym, ap, ◌∙◌}
use mathlib.Core.Bool.{Bool, true, false, ◌||◌}
use mathlib.Core.List.{List, [], ◌∷◌, ◌++◌, append_assoc, map}
use lib.ListN.{length, set, get_or, take, length-append}
use lib.Seq.{take-suc, take_all, length-take-le}
use native.Mathlib.Numerals.{add-one}
use native.Mathlib.Omega.{arith}
use Rattle.std.proofs.lemmas.List.{length-map}
use Rattle.laws.specs.Ascii.{ascii}
use Rattle.laws.specs.Laid.{laid}
use Rattle.laws.proofs.Laid.{set_then, set-laid, laid_then, laid_none}
use Rattle.text.specs.Decimal.{decimal}
use Rattle.file_report.specs.Text.{mark_of, marks, marks_of, any, line_of}
use Rattle.file_report.proofs.Text.{marks-snoc, marks-long, any_snoc, marks-none, marks-some}

-- the verdicts on the first so many of a list
abbrev pub first : {A : Type 0} → (A → Bool) → List A → ℕ → List Bool
first test l i = map test (take i l)

pub first-all : {A : Type 0} (test : A → Bool) (l : List A) (i : ℕ) → length l ≤ i → first test l i ≡ map test l
first-all test l i h = ap (map test) (take_all i l h)

or-comm : (x y : Bool) → (x || y) ≡ (y || x)
or-comm true true = refl
or-comm true false = refl
or-comm false true = refl
or-comm false false = refl

module _ {A : Type 0} (test : A → Bool) (l : List A) (i : ℕ) (d : A) (hit : Bool) (is : hit ≡ test (get_or l i d)) (h : i < length l) where
  more : first test l (i + 1) ≡ first test l i ++ (hit ∷ [])
  more =
      ap (λ (k : ℕ). map test (take k l)) (add-one i) ∙ ap (map test) (take-suc l i d h) ∙ map-snoc (take i l)
      ∙ ap (λ (b : Bool). first test l i ++ (b ∷ [])) (sym is)
    where
      map-snoc : (xs : List A) → map test (xs ++ (get_or l i d ∷ [])) ≡ map test xs ++ (test (get_or l i d) ∷ [])
      map-snoc [] = refl
      map-snoc (x ∷ xs) = ap (λ (t : List Bool). test x ∷ t) (map-snoc xs)

  pub mark-turn : (at mark : ℕ) (now out : List ℕ) → mark ∷ [] ≡ mark_of hit
      → now ≡ laid at (marks (first test l i)) out → at + i < length out
      → set now (at + i) mark ≡ laid at (marks (first test l (i + 1))) out
  mark-turn at mark now out em en room =
      let many : length (first test l i) ≡ i = length-map (take i l) test ∙ length-take-le i l (omega arith) in
      ap (λ (x : List ℕ). set x (at + i) mark) en
      ∙ set_then (at + i) mark at (marks (first test l i)) out (omega (arith, marks-long (first test l i))) room
      ∙ ap (λ (x : List ℕ). laid at x out)
      (ap (λ (x : List ℕ). marks (first test l i) ++ x) em ∙ sym (marks-snoc (first test l i) hit) ∙ ap marks (sym more))

  pub any-turn : (before : Bool) → before ≡ any (first test l i) → (before || hit) ≡ any (first test l (i + 1))
  any-turn before eb = or-comm before hit ∙ ap (λ (b : Bool). hit || b) eb ∙ sym (any_snoc (first test l i) hit) ∙ ap any (sym more)

-- before any filter
pub none-laid : (at : ℕ) (out : List ℕ) → (out ≡ laid at (marks []) out) × (false ≡ any [])
unfolding marks any
none-laid at out = (sym (laid_none at out), refl)

pub any-none : (row : List Bool) → length row ≡ 0 → false ≡ any row
unfolding any
any-none [] e = refl
any-none (x ∷ row) e = absurd (omega arith)

-- ---- the marks and the newline
module _ (row : List Bool) (n at : ℕ) (out : List ℕ) (wide : length row ≡ n) where
  pub marks-of-none : n ≡ 0 → at + 2 ≤ length out → set (set out at 45) (at + 1) 10 ≡ laid at (marks_of row ++ ascii "\n") out
  marks-of-none e h =
      rw (marks-none row (wide ∙ e))
      (ap (λ (l : List ℕ). set l (at + 1) 10) (set-laid at 45 out (omega arith)) ∙ set_then (at + 1) 10 at (45 ∷ []) out refl (omega arith))

  pub marks-of-some : (n ≡ 0 → ⊥) → (now : List ℕ) (m : ℕ) → m ≡ n → at + n + 1 ≤ length out → now ≡ laid at (marks row) out
      → set now (at + m) 10 ≡ laid at (marks_of row ++ ascii "\n") out
  marks-of-some ne now m em h en =
      rw (em, marks-some row (λ e. ne (sym wide ∙ e)))
      (ap (λ (l : List ℕ). set l (at + n) 10) en
      ∙ set_then (at + n) 10 at (marks row) out (omega (arith, marks-long row)) (omega arith))

-- ---- a line
pub line-laid : (row : List Bool) (index at p : ℕ) (out one now : List ℕ) → at + (length (decimal index) + 2) ≤ length out
    → p ≡ at + length (decimal index) → one ≡ laid at (decimal index) out → now ≡ laid (p + 1) (marks_of row ++ ascii "\n") (set one p 32)
    → now ≡ laid at (line_of index row) out
unfolding line_of
line-laid row index at p out one now h ep eo en =
    let front : p + 1 ≡ at + length (decimal index ++ ascii " ") = omega (arith, length-append (decimal index) (ascii " ")) in
    en
    ∙ ap (λ (l : List ℕ). laid (p + 1) (marks_of row ++ ascii "\n") l)
    (ap (λ (l : List ℕ). set l p 32) eo ∙ set_then p 32 at (decimal index) out ep (omega arith))
    ∙ laid_then (p + 1) at (decimal index ++ ascii " ") (marks_of row ++ ascii "\n") out front (omega arith)
    ∙ ap (λ (l : List ℕ). laid at l out) (append_assoc (decimal index) (ascii " ") (marks_of row ++ ascii "\n"))
