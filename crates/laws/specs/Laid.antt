-- A text laid into an output that has room for it, all else of the output staying; and the answer where room is asked for.
-- Source: the outline, refusal 6, and "A refusal writes nothing".
use Rattle.std.specs.Prelude.{ℕ, cond, List, ◌++◌, [], ◌∷◌, leb, length, take, drop}
use Rattle.laws.specs.Said.{Said, refuses, gives, accepted}

-- into its front
abbrev pub laid_first : List ℕ → List ℕ → List ℕ
laid_first text out = text ++ drop (length text) out

-- from a place on
abbrev pub laid : ℕ → List ℕ → List ℕ → List ℕ
laid at text out = take at out ++ laid_first text (drop at out)

-- a text for an output: its length, or refusal 6 that carries it
unfoldable pub laying : List ℕ → List ℕ → Said ℕ
laying text out = cond (leb (length text) (length out)) (gives (length text)) (refuses 6 (length text ∷ []))

-- an output after an answer: the text in its front, or all as it was
unfoldable pub written : Said ℕ → List ℕ → List ℕ → List ℕ
written said text out = cond (accepted said) (laid_first text out) out
