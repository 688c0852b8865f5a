-- `run_calls`: one turn runs one call more, and lays its answer. Assumes nothing.
use Prim.Native.Nat.{ℕ, ◌+◌, ◌-◌}
use mathlib.Core.Path.{◌≡◌, ap, ◌∙◌}
use mathlib.Core.List.{List}
use lib.ListN.{length}
use native.Mathlib.Omega.{arith}
use Rattle.laws.specs.Laid.{laid}
use Rattle.box_state.specs.declared.ReceiveBox.{ReceiveBox}
use Rattle.box_script.specs.Answers.{answers_of}
use Rattle.box_script.proofs.Format.{rest_at}
use Rattle.box_script.proofs.Run.{run-start, room-start, room-turn, answer-stands, run-turn, run_end, part-laid}
use Rattle.box_script.proofs.run_calls.Goals as goal

pub loop-at-init : goal.loop-at-init
loop-at-init c =
    let s = c.args.script.now in
    let out = c.args.out.now in
    record {
      inside = omega arith;
      room = room-start s (length out) c.requires;
      run = ap (λ (g : ReceiveBox). laid 0 (answers_of g (rest_at s 0)) out) c.fresh-state.ensures ∙ run-start s out;
      limit = omega arith;
    }

pub slice_bounds-run_call-end : goal.slice_bounds-run_call-end
slice_bounds-run_call-end c =
    let fits = (room-turn c.args.script.now c.in-Some.call c.loop-at.at c.in-Some.ensures.some c.loop-at.to (length c.args.out.now) c.loop-at.invariant.room).0 in
    omega (arith, fits, c.answer_length.ensures, c.loop-at.auto.out)

pub loop-at-preserved : goal.loop-at-preserved
loop-at-preserved c =
    let s = c.args.script.now in
    let loop = c.loop-at in
    let i = loop.invariant in
    let call = c.in-Some.call in
    let stands = c.in-Some.ensures.some in
    let long = c.length-at.ensures.0 in
    let size = c.answer_length.ensures.0 in
    let ran = c.run_call-state in
    let turn = room-turn s call loop.at stands loop.to (length c.args.out.now) i.room in
    let text : length ran.new.answer ≡ loop.to + c.answer_length.result - loop.to = ap length ran.ensures.1 ∙ answer-stands s call loop.at stands loop.state ∙ omega (arith, size) in
    let told = part-laid loop.to _ ran.new.answer loop.out text ∙ ap (λ (t : List ℕ). laid loop.to t loop.out) ran.ensures.1 in
    record {
      inside = omega (arith, stands.whole, long);
      room = rw (long, size) turn.1;
      run = run-turn s call loop.at stands loop.to c.length-at.result c.answer_length.result loop.state ran.result loop.out _ _ long size (omega (arith, turn.0, loop.auto.out)) ran.ensures.0 told i.run;
      limit = i.limit;
    }

pub returns : goal.returns
returns c = run_end c.args.script.now c.loop-at.at c.loop-at.to c.loop-at.state c.loop-at.out _ (c.at.ensures.none c.in_default.is) c.loop-at.invariant.run
