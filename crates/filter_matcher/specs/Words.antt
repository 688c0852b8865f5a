-- The short form: the two words that a frame shows, each compared with a filter's code at once.
-- Source: the outline, "The matcher" and refusal 7.
use Rattle.std.specs.Prelude.{◌≡◌, ℕ, ◌-◌, ◌^◌, Bool, true, false, cond, ◌||◌, List, [], ◌∷◌, eqb, ltb, Result}
use Rattle.std.specs.Int.Bits.{bit_and, bit_xor}
use Rattle.laws.specs.Said.{Said, refuses, gives}
use Rattle.refusals.specs.declared.Refusal.{Refusal}
use Rattle.refusals.specs.Table.{answer_said}
use Rattle.filter_matcher.specs.declared.shown.Shown.{Shown}
use Rattle.filter_matcher.specs.Match.{accepts_of}
use Rattle.filter_matcher.specs.declared.Kind.{Kind}
use Rattle.filter_matcher.specs.declared.Kind.TheVariants.{Single, Dual}

-- where a named position is compared and the code differs from the word
unfoldable pub miss_of : ℕ → ℕ → ℕ → ℕ → ℕ
miss_of code mask word named = bit_and (bit_and (bit_xor code word) (2 ^ 32 - 1 - mask)) named

unfoldable pub agrees_of : Bool → ℕ → ℕ → Shown → Bool
agrees_of dual code mask shown =
    cond dual (eqb (miss_of code mask shown.dual shown.first) 0 || eqb (miss_of code mask shown.dual shown.second) 0)
    (eqb (miss_of code mask shown.single shown.named) 0)

-- by kind: 0 single, 1 dual, refusal 7 for any other
abbrev pub by_kind : ℕ → (Bool → Bool) → Said Bool
by_kind kind verdict = cond (ltb 1 kind) (refuses 7 (0 ∷ [])) (gives (verdict (eqb kind 1)))

unfoldable pub compare_of : ℕ → ℕ → ℕ → Shown → Said Bool
compare_of kind code mask shown = by_kind kind (λ dual. agrees_of dual code mask shown)

unfoldable pub match_of : ℕ → List ℕ → List ℕ → Said Bool
match_of kind registers frame = by_kind kind (λ dual. accepts_of dual registers frame)

abbrev pub matching_said : Result Bool Refusal → Said Bool
matching_said = answer_said (λ accepted. accepted)

abbrev pub is_dual : Kind → Bool
is_dual Single = false
is_dual Dual = true

-- the kind that a byte names, or the refusal of a byte that names none
abbrev pub Judges : ℕ → Result Kind Refusal → Type 0
Judges byte judged = answer_said is_dual judged ≡ by_kind byte (λ dual. dual)
