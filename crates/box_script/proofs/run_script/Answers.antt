-- `run_script`: the calls are counted first, and run where there is room for all answers. Assumes nothing.
use Prim.Native.Nat.{ℕ}
use mathlib.Core.Path.{ap, ◌∙◌}
use mathlib.Core.List.{[], ◌∷◌}
use lib.ListN.{length}
use native.Mathlib.Omega.{arith}
use borrow.Author.Tests.{lt-leb, le-leb}
use Rattle.laws.specs.Laid.{written}
use Rattle.laws.specs.Said.{refuses, gives}
use Rattle.box_script.specs.Run.{answers_to, run_of}
use Rattle.box_script.proofs.Capped.{capped-below, capped-room}
use Rattle.box_script.proofs.run_script.Goals as goal

pub returns-then-out-needed : goal.returns-then-out-needed
unfolding run_of written
returns-then-out-needed c =
    let needed = length (answers_to c.args.script.now) in
    let short = lt-leb needed (length c.args.out.now) (omega (arith, c.scan-calls.ensures.1, capped-below needed)) in
    record { result_value = rw short (ap (λ (n : ℕ). refuses 6 (n ∷ [])) c.scan-calls.ensures.1); out_after = rw short }

pub run_calls-requires : goal.run_calls-requires
run_calls-requires c = capped-room (length (answers_to c.args.script.now)) (length c.args.out.now) (omega arith) (omega (arith, c.scan-calls.ensures.1))

pub returns : goal.returns
unfolding run_of written
returns c =
    let needed = length (answers_to c.args.script.now) in
    let room = le-leb needed (length c.args.out.now) (capped-room needed (length c.args.out.now) (omega arith) (omega (arith, c.scan-calls.ensures.1))) in
    record { result_value = rw room (ap (λ (n : ℕ). gives n) c.scan-calls.ensures.0); out_after = c.run_calls.ensures ∙ rw room }
