-- The line that says what a list's pattern lets through: how many identifiers, and those of them that were not listed.
-- Source: request #102; docs/FORMATS.md, "Lists".
use Rattle.std.specs.Prelude.{ℕ, suc, ◌+◌, ◌^◌, Bool, true, false, cond, List, [], ◌∷◌, ◌++◌, eqb, leb, length}
use Rattle.laws.specs.Ascii.{ascii}
use Rattle.text.specs.Decimal.{decimal}
use Rattle.filter_report.specs.Listed.{named_limit, ids_text}

-- a number added to each
unfoldable pub raised : ℕ → List ℕ → List ℕ
raised by [] = []
raised by (n ∷ numbers) = (by + n) ∷ raised by numbers

-- a character in front of a rest that lets these numbers through: `0` keeps them, `1` adds its bit to each, and `x` lets both through, those without its bit first
abbrev pub members_by : ℕ → ℕ → List ℕ → List ℕ
members_by c weight rest = cond (eqb c 48) rest (cond (eqb c 49) (raised weight rest) (rest ++ raised weight rest))

-- the numbers that a pattern lets through, in rising order
unfoldable pub members_of : List ℕ → List ℕ
members_of [] = 0 ∷ []
members_of (c ∷ pattern) = members_by c (2 ^ length pattern) (members_of pattern)

unfoldable pub occurs : ℕ → List ℕ → Bool
occurs n [] = false
occurs n (m ∷ list) = cond (eqb m n) true (occurs n list)

-- how many different numbers a list has
unfoldable pub different : List ℕ → ℕ
different [] = 0
different (n ∷ list) = cond (occurs n list) (different list) (suc (different list))

-- the numbers that do not occur in a list
unfoldable pub without : List ℕ → List ℕ → List ℕ
without list [] = []
without list (n ∷ numbers) = cond (occurs n list) (without list numbers) (n ∷ without list numbers)

-- what a pattern lets through beside a list
abbrev pub not_listed : List ℕ → List ℕ → List ℕ
not_listed pattern list = without list (members_of pattern)

unfoldable pub rest_text : Bool → List ℕ → List ℕ
rest_text extended rest =
    cond (eqb (length rest) 0) (ascii " none") (cond (leb (length rest) named_limit) (ids_text extended rest) (ascii " " ++ decimal (length rest)))

unfoldable pub through_text : Bool → List ℕ → List ℕ → ℕ → List ℕ
through_text extended pattern list through =
    ascii "let through " ++ (decimal through ++ (ascii ", not listed:" ++ (rest_text extended (not_listed pattern list) ++ ascii "\n")))
