-- A page of at most n bytes, and a text behind what is written on it.
-- Source: the outline, "A refusal writes nothing".
use Rattle.std.specs.Prelude.{ℕ, ◌+◌, cond, List, ◌++◌, leb, length}

-- the page with the text, where it has room for it, or as it was
unfoldable pub added : ℕ → List ℕ → List ℕ → List ℕ
added n page text = cond (leb (length page + length text) n) (page ++ text) page
