-- A frame as a slice that must be 13 bytes long, and a part of it in a lent output.
-- Source: the outline, "What changes shape"; docs/ABI.md.
use Rattle.std.specs.Prelude.{ℕ, List}
use Rattle.laws.specs.Said.{Said}
use Rattle.laws.specs.Laid.{laying, written}
use Rattle.abi_answers.specs.Answers.{whole}

-- a part of a frame, laid into a lent output
abbrev pub taking : List ℕ → List ℕ → List ℕ → Said ℕ
taking bytes frame out = whole 0 frame (laying bytes out)

abbrev pub taking_leaves : List ℕ → List ℕ → List ℕ → List ℕ
taking_leaves bytes frame out = written (taking bytes frame out) bytes out
