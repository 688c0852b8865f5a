-- `filter_report::through::different` meets its contract: what is counted so far and what is left to count make the whole. Assumes nothing.
use Rattle.std.proofs.Common.{arith, rules, ◌≡◌, true, false}
use Rattle.filter_report.specs.Through.{occurs}
use Rattle.filter_report.proofs.Unlisted.{different-again, different-last, different-end}
use Rattle.filter_report.proofs.through.different.Goals as goal

pub loop-n-preserved-then-not-occurs : goal.loop-n-preserved-then-not-occurs
loop-n-preserved-then-not-occurs c =
    let first = c.in-Some.ensures.cases in
    let other : occurs c.in-Some.n.now c.in-Some.behind.now ≡ false = search rules in
    (omega (arith, first.1, c.loop-n.invariant.0), omega (arith, c.loop-n.invariant.1, different-last _ c.loop-n.rest.now _ first.0 other))

pub loop-n-preserved : goal.loop-n-preserved
loop-n-preserved c =
    let first = c.in-Some.ensures.cases in
    let again : occurs c.in-Some.n.now c.in-Some.behind.now ≡ true = search rules in
    (omega (arith, first.1, c.loop-n.invariant.0), omega (arith, c.loop-n.invariant.1, different-again _ c.loop-n.rest.now _ first.0 again))

pub returns : goal.returns
returns c = omega (arith, c.loop-n.invariant.1, different-end c.loop-n.rest.now c.in_default.ensures.cases)
