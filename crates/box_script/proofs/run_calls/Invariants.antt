-- `run_calls`: what is laid so far, with the answers that are left laid behind it, is what is promised. Assumes nothing.
use Prim.Native.Nat.{◌+◌, ◌-◌, ◌≤◌}
use mathlib.Core.Path.{◌≡◌}
use lib.ListN.{length}
use Rattle.laws.specs.Laid.{laid}
use Rattle.box_script.specs.Answers.{answers_of}
use Rattle.box_script.specs.Run.{answers_to, most}
use Rattle.box_script.proofs.Answers.{sizes_of}
use Rattle.box_script.proofs.Format.{rest_at}
use Rattle.box_script.proofs.run_calls.Given as goal

abbrev pub invariant-loop-at : goal.invariant-loop-at
invariant-loop-at l = record {
  inside : l.at ≤ length l.script;
  room : l.to + sizes_of (rest_at l.script l.at) ≤ length l.initial.out;
  run : laid l.to (answers_of l.state (rest_at l.script l.at)) l.out ≡ laid 0 (answers_to l.script) l.initial.out;
  limit : length l.initial.out ≤ most;
}

abbrev pub decreases-loop-at : goal.decreases-loop-at
decreases-loop-at l = length l.script - l.at
