-- The characters of a pattern: `0`, `1` and `x`.
-- Source: the pattern characters of the Rust's filters; the outline, refusal 5.
use Rattle.std.specs.Prelude.{ℕ, suc, Bool, true, cond, ◌&&◌, ◌||◌, List, [], ◌∷◌, eqb, ltb, length, Option, Some, None}

abbrev pub is_character : ℕ → Bool
is_character c = eqb c 48 || eqb c 49 || eqb c 120

abbrev pub all_characters : List ℕ → Bool
all_characters [] = true
all_characters (c ∷ cs) = is_character c && all_characters cs

-- the first place that holds no pattern character, or the length
unfoldable pub bad_at : List ℕ → ℕ
bad_at [] = 0
bad_at (c ∷ cs) = cond (is_character c) (suc (bad_at cs)) 0

-- that place, or none
abbrev pub first_bad_in : List ℕ → Option ℕ
first_bad_in characters = cond (ltb (bad_at characters) (length characters)) (Some (bad_at characters)) None
