-- `read_parts`: the parts before the place are read and within the limit, so that those that are left decide. Assumes nothing.
use Prim.Native.Nat.{ℕ, ◌+◌, ◌*◌, ◌-◌}
use mathlib.Core.Path.{◌≡◌}
use lib.ListN.{length, take}
use Rattle.laws.specs.Tabulate.{tabulate}
use Rattle.box_script.specs.State.{firsts_within}
use Rattle.box_script.proofs.part.read_parts.Given as goal

abbrev pub invariant-loop-i : goal.invariant-loop-i
invariant-loop-i g l = record {
  filled : take l.i l.parts ≡ tabulate l.i (λ (k : ℕ). g.P.Part.part_at l.script (l.at + 14 * k));
  left : firsts_within (length l.parts - l.i) g.P.Part.limit l.script (l.at + 14 * l.i) ≡ firsts_within (length l.parts) g.P.Part.limit l.script l.at;
}
