-- `text::put_text` meets its contract: what is put so far stands laid. Assumes nothing.
use mathlib.Core.Path.{◌≡◌}
use lib.ListN.{length, take}
use Rattle.laws.specs.Laid.{laid}
use Rattle.text.proofs.put_text.Given as goal

abbrev pub invariant-loop-i : goal.invariant-loop-i
invariant-loop-i l = (l.out ≡ laid l.at (take l.i l.text) l.initial.out) × (length l.out ≡ length l.initial.out)
