-- A text put into an output where it fits from a place on; where it does not, all stays.
-- Source: the outline, "A refusal writes nothing".
use Rattle.std.specs.Prelude.{ℕ, ◌+◌, cond, List, leb, length}
use Rattle.laws.specs.Laid.{laid}

-- the place behind the text, or the same place
unfoldable pub place_behind : ℕ → List ℕ → List ℕ → ℕ
place_behind at text out = cond (leb (at + length text) (length out)) (at + length text) at

-- the output with the text, or as it was
unfoldable pub put_at : ℕ → List ℕ → List ℕ → List ℕ
put_at at text out = cond (leb (at + length text) (length out)) (laid at text out) out
