-- What a line of a list says: an identifier, behind `0x` in hexadecimal and else in decimal, or with `hex` in hexadecimal too, with blanks around it; from `#` on, a
-- remark. Each number below 128 that is compared with is a character.
-- Source: request #102, "a list of 32-bit numbers of one kind"; docs/FORMATS.md, "Lists".
use Rattle.std.specs.Prelude.{ℕ, ◌+◌, ◌-◌, ◌*◌, Bool, true, false, cond, List, [], ◌∷◌, eqb, ltb, leb, get_or, drop, Option, Some, None, Result, Ok, Err}
use Rattle.filter_report.specs.declared.line.Fault.{Fault}
use Rattle.filter_report.specs.declared.line.Fault.TheVariants.{Above, NotANumber}

-- a space, a tab, a carriage return
unfoldable pub is_blank : ℕ → Bool
is_blank c = cond (eqb c 32) true (cond (eqb c 9) true (eqb c 13))

-- nothing but blanks, and a remark
unfoldable pub ends : List ℕ → Bool
ends [] = true
ends (c ∷ line) = cond (eqb c 35) true (cond (is_blank c) (ends line) false)

-- a number may end here: at the line's end or a blank, and with `hex` also at the `#` of a frame's text
unfoldable pub closes : Bool → List ℕ → Bool
closes hex [] = true
closes hex (c ∷ line) = cond (eqb c 35) hex (ends (c ∷ line))

-- without the blanks in front
unfoldable pub unblanked : List ℕ → List ℕ
unblanked [] = []
unblanked (c ∷ line) = cond (is_blank c) (unblanked line) (c ∷ line)

-- `0` to `9`, `A` to `F`, `a` to `f`; 16 for any other character
unfoldable pub digit_of : ℕ → ℕ
digit_of c =
    cond (ltb c 48) 16
    (cond (ltb c 58) (c - 48)
    (cond (ltb c 65) 16
    (cond (ltb c 71) (c - 55)
    (cond (ltb c 97) 16 (cond (ltb c 103) (c - 87) 16)))))

abbrev pub base_of : Bool → ℕ
base_of false = 10
base_of true = 16

abbrev pub judged : ℕ → ℕ → Result ℕ Fault
judged limit n = cond (leb n limit) (Ok n) (Err Above)

-- digits behind those that make n, up to where the number ends
unfoldable pub number_from : ℕ → Bool → Bool → ℕ → List ℕ → Result ℕ Fault
number_from limit hex sixteen n [] = judged limit n
number_from limit hex sixteen n (c ∷ line) =
    cond (ltb (digit_of c) (base_of sixteen)) (number_from limit hex sixteen (base_of sixteen * n + digit_of c) line)
    (cond (closes hex (c ∷ line)) (judged limit n) (Err NotANumber))

-- there is at least one digit
unfoldable pub number_of : ℕ → Bool → Bool → List ℕ → Result ℕ Fault
number_of limit hex sixteen line = cond (ltb (digit_of (get_or line 0 0)) (base_of sixteen)) (number_from limit hex sixteen 0 line) (Err NotANumber)

-- `0x`
abbrev pub is_hex : List ℕ → Bool
is_hex line = cond (eqb (get_or line 0 0) 48) (eqb (get_or line 1 0) 120) false

unfoldable pub word_of : ℕ → Bool → List ℕ → Result ℕ Fault
word_of limit hex line = cond (is_hex line) (number_of limit hex true (drop 2 line)) (number_of limit hex hex line)

-- an identifier that a line has
abbrev pub some_of : Result ℕ Fault → Result (Option ℕ) Fault
some_of (Ok n) = Ok (Some n)
some_of (Err fault) = Err fault

unfoldable pub line_of : ℕ → Bool → List ℕ → Result (Option ℕ) Fault
line_of limit hex line = cond (ends line) (Ok None) (some_of (word_of limit hex (unblanked line)))
