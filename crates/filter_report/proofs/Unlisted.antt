-- Numbers that occur in a list, and those that do not: one by one, how many they are, and their text. Assumes nothing.
use Prim.Native.Nat.{ℕ, suc, ◌+◌, ◌^◌, ◌≤◌, ◌<◌}
use mathlib.Core.Path.{◌≡◌, refl, sym, ap, ap₂, ◌∙◌}
use mathlib.Core.Bool.{Bool, true, false, cond, ◌||◌}
use mathlib.Core.List.{List, [], ◌∷◌, ◌++◌, append-nil, Memᴰ}
use lib.Dec.{eqb}
use lib.ListN.{length, get_or, take, drop, length-append, take-append-drop}
use lib.Seq.{take-suc}
use native.Mathlib.Decide.{ℕ_discrete, dec_lt}
use native.Mathlib.Numerals.{add-one}
use native.Mathlib.Omega.{arith}
use borrow.Author.Tests.{eq-eqb, ne_eqb, le-leb, lt-leb}
use Rattle.laws.specs.Ascii.{ascii}
use Rattle.text.specs.Decimal.{decimal}
use Rattle.text.proofs.Decimal.{decimal-long}
use Rattle.filter_report.specs.Listed.{id_text, ids_text}
use Rattle.filter_report.specs.Through.{occurs, different, without, rest_text}
use Rattle.std.specs.List.{list_any}
use Rattle.filter_report.proofs.Ids.{ids-long, ids-join, id-alone}

-- ---- looked for
pub occurs_is : (n : ℕ) (list : List ℕ) → list_any (λ m. eqb m n) list ≡ occurs n list
unfolding occurs
occurs_is n [] = refl
occurs_is n (m ∷ list) = by (eqb m n) (occurs_is n list)
  where
    by : (b : Bool) → list_any (λ m. eqb m n) list ≡ occurs n list → b || list_any (λ m. eqb m n) list ≡ cond b true (occurs n list)
    by true e = refl
    by false e = e

-- ---- counted from left to right
module _ (n : ℕ) (rest behind : List ℕ) (first : rest ≡ n ∷ behind) where
  pub different-again : occurs n behind ≡ true → different rest ≡ different behind
  unfolding different
  different-again e = ap different first ∙ rw e

  pub different-last : occurs n behind ≡ false → different rest ≡ different behind + 1
  unfolding different
  different-last e = ap different first ∙ rw e (omega arith)

pub different-end : (rest : List ℕ) → length rest ≡ 0 → different rest ≡ 0
unfolding different
different-end [] h = refl
different-end (n ∷ rest) h = absurd (omega arith)

-- ---- the numbers that do not occur, one by one
pub without-listed : (list : List ℕ) (n : ℕ) → occurs n list ≡ true → without list (n ∷ []) ≡ []
unfolding without
without-listed list n e = rw e

pub without_other : (list : List ℕ) (n : ℕ) → occurs n list ≡ false → without list (n ∷ []) ≡ n ∷ []
unfolding without
without_other list n e = rw e

pub without-none : (list : List ℕ) → without list [] ≡ []
unfolding without
without-none list = refl

without-join : (list a b : List ℕ) → without list (a ++ b) ≡ without list a ++ without list b
unfolding without
without-join list [] b = refl
without-join list (n ∷ a) b = by (occurs n list) (without-join list a b)
  where
    by : (t : Bool) → without list (a ++ b) ≡ without list a ++ without list b
        → cond t (without list (a ++ b)) (n ∷ without list (a ++ b)) ≡ cond t (without list a) (n ∷ without list a) ++ without list b
    by true e = e
    by false e = ap (λ (l : List ℕ). n ∷ l) e

module _ (list numbers : List ℕ) (k : ℕ) (h : k < length numbers) where
  pub without-turn : without list (take k numbers) ++ without list (get_or numbers k 0 ∷ []) ≡ without list (take (k + 1) numbers)
  without-turn = sym (without-join list (take k numbers) (get_or numbers k 0 ∷ [])) ∙ ap (without list) (sym (take-suc numbers k 0 h) ∙ ap (λ (n : ℕ). take n numbers) (sym (add-one k)))

  pub without-part : length (without list (take k numbers)) + length (without list (get_or numbers k 0 ∷ [])) ≤ length (without list numbers)
  without-part =
      let rest = drop (k + 1) numbers in
      let all = ap (without list) (sym (take-append-drop (k + 1) numbers)) ∙ without-join list (take (k + 1) numbers) rest in
      let long = ap length all ∙ length-append (without list (take (k + 1) numbers)) (without list rest) in
      let turn = length-append (without list (take k numbers)) (without list (get_or numbers k 0 ∷ [])) in
      omega (arith, long, turn, ap length without-turn)

  -- one number more: it is listed, or it is put
  module _ (extended : Bool) (n : ℕ) (here : n ≡ get_or numbers k 0) where
    pub turn-listed : occurs n list ≡ true → ids_text extended (without list (take k numbers)) ≡ ids_text extended (without list (take (k + 1) numbers))
    turn-listed e =
        let front = without list (take k numbers) in
        ap (ids_text extended) (sym (append-nil front) ∙ ap (λ (l : List ℕ). front ++ l) (sym (without-listed list n e)) ∙ ap (λ (m : ℕ). front ++ without list (m ∷ [])) here ∙ without-turn)

    pub turn-other : occurs n list ≡ false → ids_text extended (without list (take k numbers)) ++ id_text extended n ≡ ids_text extended (without list (take (k + 1) numbers))
    turn-other e =
        let front = without list (take k numbers) in
        ap (λ (l : List ℕ). ids_text extended front ++ l) (id-alone extended n)
        ∙ sym (ids-join extended front (n ∷ []))
        ∙ ap (ids_text extended) (ap (λ (l : List ℕ). front ++ l) (sym (without_other list n e)) ∙ ap (λ (m : ℕ). front ++ without list (m ∷ [])) here ∙ without-turn)

    pub turn-room : occurs n list ≡ false → length (without list (take k numbers)) + 1 ≤ length (without list numbers)
    turn-room e = omega (arith, without-part, ap (λ (m : ℕ). length (without list (m ∷ []))) here, ap length (without_other list n e))

-- ---- how many they are
-- how often a number stands among others
unfoldable pub occurrences : ℕ → List ℕ → ℕ
occurrences n [] = 0
occurrences n (m ∷ numbers) = cond (eqb m n) 1 0 + occurrences n numbers

without-nothing : (numbers : List ℕ) → without [] numbers ≡ numbers
unfolding without occurs
without-nothing [] = refl
without-nothing (m ∷ numbers) = ap (λ (l : List ℕ). m ∷ l) (without-nothing numbers)

module _ (list : List ℕ) (n : ℕ) where
  -- a number that is listed again
  without-again : occurs n list ≡ true → (numbers : List ℕ) → without (n ∷ list) numbers ≡ without list numbers
  unfolding without occurs
  without-again e [] = refl
  without-again e (m ∷ numbers) = ap₂ (λ (t : Bool) (l : List ℕ). cond t l (m ∷ l)) same (without-again e numbers)
    where
      same : cond (eqb n m) true (occurs m list) ≡ occurs m list
      same = elim (ℕ_discrete n m) [ yes p ↦ rw (eq-eqb n m p) (sym (rw p at e)) | no q ↦ rw (ne_eqb n m q) ]

  -- a number that is not
  without-once : occurs n list ≡ false → (numbers : List ℕ) → length (without (n ∷ list) numbers) + occurrences n numbers ≡ length (without list numbers)
  unfolding without occurs occurrences
  without-once e [] = refl
  without-once e (m ∷ numbers) = elim (ℕ_discrete n m) [
    | yes p ↦ (let here : occurs m list ≡ false = rw p at e in rw (eq-eqb n m p, eq-eqb m n (sym p), here) (omega (arith, without-once e numbers)))
    | no q ↦ rw (ne_eqb n m q, ne_eqb m n (λ p. q (sym p))) (by (occurs m list) (without-once e numbers))
  ]
    where
      by : (t : Bool) → length (without (n ∷ list) numbers) + occurrences n numbers ≡ length (without list numbers)
          → length (cond t (without (n ∷ list) numbers) (m ∷ without (n ∷ list) numbers)) + (0 + occurrences n numbers) ≡ length (cond t (without list numbers) (m ∷ without list numbers))
      by true r = omega (arith, r)
      by false r = omega (arith, r)

-- all but one for each different number of the list, where each of these stands once among all
pub others-count : (list numbers : List ℕ) → ((n : ℕ) → Memᴰ n list → occurrences n numbers ≡ 1) → length numbers ≡ different list + length (without list numbers)
unfolding different
others-count [] numbers once = omega (arith, ap length (without-nothing numbers))
others-count (n ∷ list) numbers once = by (occurs n list) refl (others-count list numbers (λ m h. once m (Memᴰ.tail h)))
  where
    by : (t : Bool) → occurs n list ≡ t → length numbers ≡ different list + length (without list numbers)
        → length numbers ≡ cond t (different list) (suc (different list)) + length (without (n ∷ list) numbers)
    by true e r = omega (arith, r, ap length (without-again list n e numbers))
    by false e r = omega (arith, r, without-once list n e numbers, once n (Memᴰ.head refl))

-- ---- their text
module _ (extended : Bool) (rest : List ℕ) where
  pub rest-none : length rest ≡ 0 → ascii " none" ≡ rest_text extended rest
  unfolding rest_text
  rest-none e = rw (eq-eqb (length rest) 0 e)

  pub rest-few : (length rest ≡ 0 → ⊥) → length rest ≤ 16 → ids_text extended rest ≡ rest_text extended rest
  unfolding rest_text
  rest-few n h = rw (ne_eqb (length rest) 0 n, le-leb (length rest) 16 h)

  pub rest-many : 16 < length rest → ascii " " ++ decimal (length rest) ≡ rest_text extended rest
  unfolding rest_text
  rest-many h = rw (ne_eqb (length rest) 0 (λ e. omega arith), lt-leb (length rest) 16 h)

  pub rest-long : length rest < 2 ^ 32 → length (rest_text extended rest) ≤ 176
  rest-long small =
      elim (ℕ_discrete (length rest) 0) [
        | yes e ↦ omega (arith, ap length (rest-none e))
        | no n ↦ elim (dec_lt 16 (length rest)) [
          | yes h ↦ omega (arith, ap length (rest-many h), decimal-long 9 (length rest) (omega arith))
          | no h ↦ omega (arith, ap length (rest-few n (omega arith)), ids-long extended rest)
        ]
      ]
