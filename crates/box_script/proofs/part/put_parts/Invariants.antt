-- `put_parts`: each turn lays one part more. Assumes nothing.
use Prim.Native.Nat.{◌*◌}
use mathlib.Core.Path.{◌≡◌}
use lib.ListN.{take}
use Rattle.std.specs.List.{flat_map}
use Rattle.box_script.proofs.part.put_parts.Given as goal

abbrev pub invariant-loop-i : goal.invariant-loop-i
invariant-loop-i g l = take (14 * l.i) l.out ≡ flat_map g.P.Part.text (take l.i l.parts)
