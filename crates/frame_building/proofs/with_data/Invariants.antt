-- `frame_building::with_data` meets its contract: what is copied so far stands laid, and each turn lays one byte more. Assumes nothing.
use mathlib.Core.Path.{◌≡◌}
use lib.ListN.{take}
use Rattle.laws.specs.Laid.{laid}
use Rattle.frame_building.proofs.with_data.Given as goal

abbrev pub invariant-loop-i : goal.invariant-loop-i
invariant-loop-i l = l.frame ≡ laid l.start (take l.i l.data) l.initial.frame
