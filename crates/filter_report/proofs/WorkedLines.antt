-- What the lines about two lists come to, by computation: all that is listed and let through is named, and one list lets nothing else through. Assumes nothing.
use mathlib.Core.Path.{◌≡◌, refl}
use mathlib.Core.Bool.{true, false}
use mathlib.Core.List.{[], ◌∷◌}
use Rattle.laws.specs.Ascii.{ascii}
use Rattle.text.specs.Decimal.{digits_of, decimal}
use Rattle.filter_list.specs.Pattern.{character_at, pattern_of}
use Rattle.filter_report.specs.Listed.{id_text, ids_text, front_text, listed_text}
use Rattle.filter_report.specs.Through.{raised, members_of, occurs, different, without, rest_text, through_text}

pub listed-worked :
    (listed_text false (0x64 ∷ 0x68 ∷ []) ≡ ascii "listed 2: 0x064 0x068\n")
    × (listed_text true (0x1FFFFFFF ∷ []) ≡ ascii "listed 1: 0x1FFFFFFF\n")
unfolding digits_of decimal id_text ids_text front_text listed_text
listed-worked = (refl, refl)

pub through-worked :
    (through_text false (pattern_of 11 (0x64 ∷ 0x67 ∷ 0x64 ∷ [])) (0x64 ∷ 0x67 ∷ 0x64 ∷ []) 4 ≡ ascii "let through 4, not listed: 0x065 0x066\n")
    × (through_text false (pattern_of 11 (0x64 ∷ [])) (0x64 ∷ []) 1 ≡ ascii "let through 1, not listed: none\n")
    × (through_text false (pattern_of 11 (0 ∷ 0x1F ∷ [])) (0 ∷ 0x1F ∷ []) 32 ≡ ascii "let through 32, not listed: 30\n")
unfolding digits_of decimal character_at pattern_of id_text ids_text raised members_of occurs different without rest_text through_text
through-worked = (refl, refl, refl)
