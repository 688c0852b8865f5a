-- How long the lines are, whatever the verdicts, by how many filters and frames there are. No promise of a public function cites these
-- forms: proofs/Text shows that they are the lengths of the text's.
use Rattle.std.specs.Prelude.{ℕ, zero, suc, ◌+◌, cond, eqb, length}
use Rattle.text.specs.Decimal.{decimal}

-- a mark for each filter, or one `-`
unfoldable pub width_of : ℕ → ℕ
width_of filters = cond (eqb filters 0) 1 filters

-- the index, a space, the marks, a newline
abbrev pub line_length : ℕ → ℕ → ℕ
line_length filters index = length (decimal index) + 2 + width_of filters

unfoldable pub lines_length : ℕ → ℕ → ℕ
lines_length filters zero = 0
lines_length filters (suc frames) = lines_length filters frames + line_length filters frames
