-- The text's parts grow at their ends: one mark, one line, one count more; and how long they are. Assumes nothing.
use Prim.Native.Nat.{ℕ, zero, suc, ◌+◌, ◌≤◌, max}
use mathlib.Core.Path.{◌≡◌, refl, sym, ap, ap₂, ◌∙◌}
use mathlib.Core.Bool.{Bool, true, false, cond, ◌||◌}
use mathlib.Core.List.{List, [], ◌∷◌, ◌++◌, append_assoc, append-nil}
use lib.ListN.{length, length-append}
use native.Mathlib.Omega.{arith}
use borrow.Author.Tests.{eq-eqb, ne_eqb}
use Rattle.laws.specs.Ascii.{ascii}
use Rattle.laws.specs.Tabulate.{tabulate}
use Rattle.laws.proofs.Tabulate.{tabulate-snoc, length-tabulate}
use Rattle.file_report.specs.Text.{mark_of, marks, marks_of, any, line_of, lines_from, count_of}
use Rattle.file_report.specs.Length.{width_of, line_length, lines_length}

-- ---- a row
mark-long : (accepted : Bool) → length (mark_of accepted) ≡ 1
mark-long true = refl
mark-long false = refl

pub marks-snoc : (row : List Bool) (last : Bool) → marks (row ++ (last ∷ [])) ≡ marks row ++ mark_of last
unfolding marks
marks-snoc [] last = append-nil (mark_of last)
marks-snoc (first ∷ row) last =
    ap (λ (l : List ℕ). mark_of first ++ l) (marks-snoc row last) ∙ sym (append_assoc (mark_of first) (marks row) (mark_of last))

pub marks-long : (row : List Bool) → length (marks row) ≡ length row
unfolding marks
marks-long [] = refl
marks-long (first ∷ row) = length-append (mark_of first) (marks row) ∙ omega (arith, mark-long first, marks-long row)

swap : (x y z : Bool) → (x || (y || z)) ≡ (y || (x || z))
swap true true z = refl
swap true false z = refl
swap false true z = refl
swap false false z = refl

pub any_snoc : (row : List Bool) (last : Bool) → any (row ++ (last ∷ [])) ≡ (last || any row)
unfolding any
any_snoc [] last = refl
any_snoc (first ∷ row) last = ap (λ (b : Bool). first || b) (any_snoc row last) ∙ swap first last (any row)

-- ---- a line
pub width-none : (n : ℕ) → n ≡ 0 → width_of n ≡ 1
unfolding width_of
width-none n e = rw (eq-eqb n 0 e)

pub width_some : (n : ℕ) → (n ≡ 0 → ⊥) → width_of n ≡ n
unfolding width_of
width_some n e = rw (ne_eqb n 0 e)

pub width-max : (n : ℕ) → max n 1 ≡ width_of n
width-max zero = sym (width-none 0 refl)
width-max (suc n) = omega arith ∙ sym (width_some (suc n) (λ e. omega arith))

pub marks-none : (row : List Bool) → length row ≡ 0 → marks_of row ≡ ascii "-"
unfolding marks_of
marks-none [] e = refl
marks-none (first ∷ row) e = absurd (omega arith)

pub marks-some : (row : List Bool) → (length row ≡ 0 → ⊥) → marks_of row ≡ marks row
unfolding marks_of
marks-some [] ne = absurd (ne refl)
marks-some (first ∷ row) ne = refl

width-long : (row : List Bool) → length (marks_of row) ≡ width_of (length row)
unfolding marks_of
width-long [] = sym (width-none 0 refl)
width-long (first ∷ row) = marks-long (first ∷ row) ∙ sym (width_some (suc (length row)) (λ e. omega arith))

pub line-long : (index : ℕ) (row : List Bool) → length (line_of index row) ≡ line_length (length row) index
unfolding line_of
line-long index row = simp length-append (omega (arith, width-long row))

-- ---- lines and counts
lines_snoc : (index : ℕ) (rows : List (List Bool)) (last : List Bool)
    → lines_from index (rows ++ (last ∷ [])) ≡ lines_from index rows ++ line_of (index + length rows) last
unfolding lines_from
lines_snoc index [] last =
    let e : index + 0 ≡ index = omega arith in
    rw e (append-nil (line_of index last))
lines_snoc index (row ∷ rows) last =
    let e : index + 1 + length rows ≡ index + suc (length rows) = omega arith in
    ap (λ (l : List ℕ). line_of index row ++ l) (lines_snoc (index + 1) rows last ∙ ap (λ (k : ℕ). lines_from (index + 1) rows ++ line_of k last) e)
    ∙ sym (append_assoc (line_of index row) (lines_from (index + 1) rows) (line_of (index + suc (length rows)) last))

count-snoc : (rows : List (List Bool)) (last : List Bool) → count_of (rows ++ (last ∷ [])) ≡ count_of rows + cond (any last) 1 0
unfolding count_of
count-snoc [] last = omega arith
count-snoc (row ∷ rows) last = more (cond (any row) 1 0) (count_of (rows ++ (last ∷ []))) (count_of rows) (cond (any last) 1 0) (count-snoc rows last)
  where
    more : (x y z w : ℕ) → y ≡ z + w → x + y ≡ x + z + w
    more x y z w e = omega arith

count-le : (rows : List (List Bool)) → count_of rows ≤ length rows
unfolding count_of
count-le [] = omega arith
count-le (row ∷ rows) = by (any row) (count-le rows)
  where
    by : (some : Bool) → count_of rows ≤ length rows → cond some 1 0 + count_of rows ≤ suc (length rows)
    by true h = omega arith
    by false h = omega arith

-- rows by their index, each of n verdicts
module _ (n : ℕ) (row : ℕ → List Bool) (wide : (i : ℕ) → length (row i) ≡ n) where
  pub lines_more : (m : ℕ) → lines_from 0 (tabulate (suc m) row) ≡ lines_from 0 (tabulate m row) ++ line_of m (row m)
  lines_more m =
      let e : 0 + length (tabulate m row) ≡ m = omega (arith, length-tabulate m row) in
      ap (lines_from 0) (tabulate-snoc m row) ∙ lines_snoc 0 (tabulate m row) (row m) ∙ ap (λ (k : ℕ). lines_from 0 (tabulate m row) ++ line_of k (row m)) e

  pub count-more : (m : ℕ) → count_of (tabulate (suc m) row) ≡ count_of (tabulate m row) + cond (any (row m)) 1 0
  count-more m = ap count_of (tabulate-snoc m row) ∙ count-snoc (tabulate m row) (row m)

  pub count_most : (m : ℕ) → count_of (tabulate m row) ≤ m
  count_most m = omega (arith, count-le (tabulate m row), length-tabulate m row)

  pub lines_long : (m : ℕ) → length (lines_from 0 (tabulate m row)) ≡ lines_length n m
  unfolding lines_length lines_from
  lines_long zero = refl
  lines_long (suc m) =
      ap length (lines_more m) ∙ length-append (lines_from 0 (tabulate m row)) (line_of m (row m))
      ∙ ap₂ (λ (x y : ℕ). x + y) (lines_long m) (line-long m (row m) ∙ ap (λ (k : ℕ). line_length k m) (wide m))

pub long-more : (n i k : ℕ) → lines_length n i ≤ lines_length n (i + k)
unfolding lines_length
long-more n i zero =
    let e : i + 0 ≡ i = omega arith in rw e (omega arith)
long-more n i (suc k) =
    let e : i + suc k ≡ suc (i + k) = omega arith in
    let r : lines_length n i ≤ lines_length n (i + k) = long-more n i k in
    rw e (omega arith)
