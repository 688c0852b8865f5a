-- `scan`: the calls so far and those that are left are the script's, and so are their answers' lengths. Assumes nothing.
use Prim.Native.Nat.{◌+◌, ◌-◌, ◌≤◌}
use mathlib.Core.Path.{◌≡◌}
use lib.ListN.{length}
use Rattle.box_script.specs.Format.{calls_of}
use Rattle.box_script.specs.Run.{most, capped}
use Rattle.box_script.proofs.Answers.{sizes_of}
use Rattle.box_script.proofs.Format.{rest_at}
use Rattle.box_script.proofs.scan.Given as goal

abbrev pub invariant-loop-at : goal.invariant-loop-at
invariant-loop-at l = record {
  few : l.calls ≤ l.at;
  inside : l.at ≤ length l.script;
  carried : l.needed ≤ most;
  counted : l.calls + length (rest_at l.script l.at) ≡ length (calls_of l.script);
  sized : capped (l.needed + sizes_of (rest_at l.script l.at)) ≡ capped (sizes_of (calls_of l.script));
}

abbrev pub decreases-loop-at : goal.decreases-loop-at
decreases-loop-at l = length l.script - l.at
