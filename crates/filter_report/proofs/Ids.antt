-- Identifiers on a page: how long their texts are, and one more at each turn. Assumes nothing.
use Prim.Native.Nat.{ℕ, zero, suc, ◌+◌, ◌-◌, ◌*◌, ◌/◌, ◌%◌, ◌^◌, ◌≤◌, ◌<◌}
use mathlib.Core.Path.{◌≡◌, refl, sym, ap, ◌∙◌}
use mathlib.Core.Bool.{Bool, true, false}
use mathlib.Core.List.{List, [], ◌∷◌, ◌++◌, append_assoc, append-nil}
use lib.ListN.{length, get_or, take, length-append}
use lib.Pow.{pow-add}
use lib.Seq.{take-suc, length-take-le, take-length}
use native.Mathlib.Nat.{pow-suc}
use native.Mathlib.Decide.{dec_lt}
use native.Mathlib.Numerals.{add-one}
use native.Mathlib.Omega.{arith}
use borrow.Author.Tests.{le-leb, lt-leb}
use Rattle.laws.specs.Ascii.{ascii}
use Rattle.text.specs.Decimal.{decimal}
use Rattle.text.proofs.Decimal.{decimal-long}
use Rattle.filter_list.proofs.Pattern.{down-length, down-at}
use Rattle.filter_report.specs.Hex.{hex_digit}
use Rattle.filter_report.specs.Listed.{hex_width, last_digits, id_text, ids_text, front_text, listed_text}

-- ---- a number's last digits
-- a digit is four bits
pub four-bits : (k : ℕ) → 2 ^ (4 * k) ≡ 16 ^ k
four-bits zero = refl
four-bits (suc k) = ap (λ (n : ℕ). 2 ^ n) {x = 4 * suc k} {y = 4 * k + 4} (omega arith) ∙ pow-add 2 (4 * k) 4 ∙ ap (λ (n : ℕ). n * 16) (four-bits k) ∙ sym (pow-suc 16 k)

pub digits-turn : (width number i : ℕ) → i < width
    → take i (last_digits width number) ++ (hex_digit (number / 16 ^ (width - 1 - i) % 16) ∷ []) ≡ take (i + 1) (last_digits width number)
digits-turn width number i h =
    let digits = last_digits width number in
    let long : length digits ≡ width = down-length width (λ k. hex_digit (number / 16 ^ k % 16)) in
    ap (λ (x : ℕ). take i digits ++ (x ∷ [])) (sym (down-at width (λ k. hex_digit (number / 16 ^ k % 16)) i h))
    ∙ sym (take-suc digits i 0 (omega (arith, long)))
    ∙ ap (λ (n : ℕ). take n digits) (sym (add-one i))

pub digits-all : (width number : ℕ) → take width (last_digits width number) ≡ last_digits width number
digits-all width number = ap (λ (n : ℕ). take n (last_digits width number)) (sym (down-length width (λ k. hex_digit (number / 16 ^ k % 16)))) ∙ take-length (last_digits width number)

-- ---- identifiers
pub id-long : (extended : Bool) (id : ℕ) → length (id_text extended id) ≤ 11
unfolding id_text
id-long false id = omega arith
id-long true id = omega arith

pub id-is : (extended : Bool) (id width : ℕ) → width ≡ hex_width extended → ascii " 0x" ++ last_digits width id ≡ id_text extended id
unfolding id_text
id-is extended id width e = ap (λ (n : ℕ). ascii " 0x" ++ last_digits n id) e

pub ids-long : (extended : Bool) (ids : List ℕ) → length (ids_text extended ids) ≤ 11 * length ids
unfolding ids_text
ids-long extended [] = omega arith
ids-long extended (id ∷ ids) = omega (arith, length-append (id_text extended id) (ids_text extended ids), id-long extended id, ids-long extended ids)

pub ids-join : (extended : Bool) (a b : List ℕ) → ids_text extended (a ++ b) ≡ ids_text extended a ++ ids_text extended b
unfolding ids_text
ids-join extended [] b = refl
ids-join extended (id ∷ a) b = ap (λ (t : List ℕ). id_text extended id ++ t) (ids-join extended a b) ∙ sym (append_assoc (id_text extended id) (ids_text extended a) (ids_text extended b))

pub id-alone : (extended : Bool) (id : ℕ) → id_text extended id ≡ ids_text extended (id ∷ [])
unfolding ids_text
id-alone extended id = sym (append-nil (id_text extended id))

pub ids-none : (extended : Bool) → ids_text extended [] ≡ []
unfolding ids_text
ids-none extended = refl

pub ids-turn : (extended : Bool) (list : List ℕ) (i : ℕ) → i < length list → ids_text extended (take i list) ++ id_text extended (get_or list i 0) ≡ ids_text extended (take (i + 1) list)
ids-turn extended list i h =
    ap (λ (t : List ℕ). ids_text extended (take i list) ++ t) (id-alone extended (get_or list i 0))
    ∙ sym (ids-join extended (take i list) (get_or list i 0 ∷ []))
    ∙ ap (ids_text extended) (sym (take-suc list i 0 h) ∙ ap (λ (n : ℕ). take n list) (sym (add-one i)))

-- the first of them
pub ids-first : (extended : Bool) (list : List ℕ) (i : ℕ) → i ≤ length list → length (ids_text extended (take i list)) ≤ 11 * i
ids-first extended list i h = omega (arith, ids-long extended (take i list), length-take-le i list h)

-- ---- the entries of a list
pub front-few : (extended : Bool) (list : List ℕ) → length list ≤ 16 → ids_text extended list ≡ front_text extended list
unfolding front_text
front-few extended list h = rw (le-leb (length list) 16 h)

pub front-many : (extended : Bool) (list : List ℕ) → 16 < length list → ids_text extended (take 16 list) ++ ascii " .." ≡ front_text extended list
unfolding front_text
front-many extended list h = rw (lt-leb (length list) 16 h)

pub front_long : (extended : Bool) (list : List ℕ) → length (front_text extended list) ≤ 179
front_long extended list =
    elim (dec_lt 16 (length list)) [
      | yes h ↦ omega (arith, ap length (front-many extended list h), length-append (ids_text extended (take 16 list)) (ascii " .."), ids-first extended list 16 (omega arith))
      | no h ↦ omega (arith, ap length (front-few extended list (omega arith)), ids-long extended list)
    ]

pub listed-long : (extended : Bool) (list : List ℕ) → length list ≤ 32768 → length (listed_text extended list) ≤ 193
unfolding listed_text
listed-long extended list few =
    let front = front_text extended list in
    let count = decimal (length list) in
    omega (
      arith,
      decimal-long 4 (length list) (omega arith),
      front_long extended list,
      length-append (ascii "listed ") (count ++ (ascii ":" ++ (front ++ ascii "\n"))),
      length-append count (ascii ":" ++ (front ++ ascii "\n")),
      length-append front (ascii "\n"),
    )
