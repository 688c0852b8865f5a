-- `scan`: one turn counts one call more, and where no call is whole none is left. Assumes nothing.
use native.Mathlib.Omega.{arith}
use Rattle.box_script.proofs.Counted.{count_turn, needed-turn, count-end, needed-end}
use Rattle.box_script.proofs.scan.Goals as goal

pub loop-at-preserved : goal.loop-at-preserved
loop-at-preserved c =
    let s = c.args.script.now in
    let loop = c.loop-at in
    let i = loop.invariant in
    let stands = c.in-Some.ensures.some in
    let long = c.length-at.ensures.0 in
    let some = c.length-at.ensures.1 in
    record {
      few = omega (arith, i.few, some);
      inside = omega (arith, stands.whole, long);
      carried = omega (arith, c.saturating_add-needed.type_inv);
      counted = rw long (count_turn s c.in-Some.call loop.at stands loop.calls _ i.counted);
      sized = rw long (needed-turn s c.in-Some.call loop.at stands loop.needed c.answer_length.result c.saturating_add-needed.result _ c.answer_length.ensures.0 c.saturating_add-needed.ensures i.sized);
    }

pub returns : goal.returns
returns c =
    let s = c.args.script.now in
    let loop = c.loop-at in
    let i = loop.invariant in
    let none = c.at.ensures.none c.in_default.is in
    (count-end s loop.at none loop.calls _ i.counted, needed-end s loop.at none loop.needed i.carried i.sized)
