-- The identifiers that are found are within the limit: each is judged where it is read. Assumes nothing.
use Prim.Native.Nat.{ℕ, suc, ◌+◌, ◌*◌, ◌≤◌}
use mathlib.Core.Path.{◌≡◌, refl, ap}
use mathlib.Core.Bool.{Bool, true, false, cond}
use mathlib.Core.List.{List, [], ◌∷◌}
use lib.Dec.{ltb, leb}
use lib.ListN.{length, get_or, drop}
use borrow.Author.Tests.{leb-true, le-leb}
use Rattle.std.specs.Prelude.{Option, Some, None, Result, Ok, Err}
use Rattle.filter_list.specs.Answers.{first_above}
use Rattle.filter_report.specs.Line.{digit_of, base_of, ends, closes, unblanked, judged, number_from, number_of, is_hex, word_of, some_of, line_of}
use Rattle.filter_report.specs.Lines.{lines_of, Found, listed, above_at, wrong_at, found_by, found_from, found_in}
use Rattle.filter_report.specs.declared.line.Fault.{Fault}
use Rattle.filter_report.specs.declared.line.Fault.TheVariants.{Above, NotANumber}

abbrev Within : ℕ → Result ℕ Fault → Type 0
Within limit (Ok n) = n ≤ limit
Within limit (Err f) = Unit

either : (limit : ℕ) (b : Bool) (l m : Result ℕ Fault) → Within limit l → Within limit m → Within limit (cond b l m)
either limit true l m x y = x
either limit false l m x y = y

abbrev LineWithin : ℕ → Result (Option ℕ) Fault → Type 0
LineWithin limit (Ok None) = Unit
LineWithin limit (Ok (Some n)) = n ≤ limit
LineWithin limit (Err f) = Unit

some-within : (limit : ℕ) (b : Bool) (r : Result ℕ Fault) → Within limit r → LineWithin limit (cond b (Ok None) (some_of r))
some-within limit true r w = tt
some-within limit false (Ok n) w = w
some-within limit false (Err f) w = tt

judged-within : (limit n : ℕ) → Within limit (judged limit n)
judged-within limit n = by (leb n limit) refl
  where
    by : (b : Bool) → leb n limit ≡ b → Within limit (cond b (Ok n) (Err Above))
    by true e = leb-true n limit e
    by false e = tt

module _ (limit : ℕ) (hex : Bool) where
  number-within : (sixteen : Bool) (n : ℕ) (line : List ℕ) → Within limit (number_from limit hex sixteen n line)
  unfolding number_from
  number-within sixteen n [] = judged-within limit n
  number-within sixteen n (c ∷ line) =
      either limit (ltb (digit_of c) (base_of sixteen)) (number_from limit hex sixteen (base_of sixteen * n + digit_of c) line) (cond (closes hex (c ∷ line)) (judged limit n) (Err NotANumber))
      (number-within sixteen (base_of sixteen * n + digit_of c) line)
      (either limit (closes hex (c ∷ line)) (judged limit n) (Err NotANumber) (judged-within limit n) tt)

  number-of-within : (sixteen : Bool) (line : List ℕ) → Within limit (number_of limit hex sixteen line)
  unfolding number_of
  number-of-within sixteen line =
      either limit (ltb (digit_of (get_or line 0 0)) (base_of sixteen)) (number_from limit hex sixteen 0 line) (Err NotANumber) (number-within sixteen 0 line) tt

  line-of-within : (line : List ℕ) → LineWithin limit (line_of limit hex line)
  unfolding line_of word_of
  line-of-within line =
      let word = unblanked line in
      some-within limit (ends line) (cond (is_hex word) (number_of limit hex true (drop 2 word)) (number_of limit hex hex word))
      (either limit (is_hex word) (number_of limit hex true (drop 2 word)) (number_of limit hex hex word) (number-of-within true (drop 2 word)) (number-of-within hex word))

-- none of the identifiers found is above the limit
abbrev pub AllWithin : ℕ → Found → Type 0
AllWithin limit (listed list) = first_above limit list ≡ length list
AllWithin limit (above_at k line) = Unit
AllWithin limit (wrong_at k line) = Unit

step : (limit k : ℕ) (line : List ℕ) (says : Result (Option ℕ) Fault) (rest : Found) → LineWithin limit says → AllWithin limit rest → AllWithin limit (found_by k line says rest)
unfolding first_above
step limit k line (Ok None) rest w a = a
step limit k line (Ok (Some n)) (listed list) w a = rw (le-leb n limit w) (ap suc a)
step limit k line (Ok (Some n)) (above_at j at) w a = tt
step limit k line (Ok (Some n)) (wrong_at j at) w a = tt
step limit k line (Err Above) rest w a = tt
step limit k line (Err NotANumber) rest w a = tt

from-within : (limit : ℕ) (hex : Bool) (k : ℕ) (lines : List (List ℕ)) → AllWithin limit (found_from limit hex k lines)
unfolding found_from first_above
from-within limit hex k [] = refl
from-within limit hex k (line ∷ lines) =
    step limit k line (line_of limit hex line) (found_from limit hex (suc k) lines) (line-of-within limit hex line) (from-within limit hex (suc k) lines)

pub found_within : (limit : ℕ) (hex : Bool) (text : List ℕ) → AllWithin limit (found_in limit hex text)
unfolding found_in
found_within limit hex text = from-within limit hex 1 (lines_of text)
