-- `filter_report::named::put_ids` meets its contract: at each turn one identifier more stands behind the others. Assumes nothing.
use Rattle.std.proofs.Common.{arith}
use Rattle.filter_report.proofs.Page.{empty, long, turn}
use Rattle.filter_report.proofs.Ids.{ids-none, ids-first, ids-turn}
use Rattle.filter_report.proofs.named.put_ids.Goals as goal

pub loop-id-init : goal.loop-id-init
loop-id-init c = empty c.args.page.now _ (ids-none c.args.extended)

pub put_id-requires : goal.put_id-requires
put_id-requires c =
    let loop = c.loop-id in
    let first = ids-first c.args.extended c.args.ids.now loop.id-index (omega (arith, c.loop-id-test.true)) in
    omega (arith, c.requires, c.loop-id-test.true, long c.args.page.now _ loop.page loop.invariant, first)

pub loop-id-preserved : goal.loop-id-preserved
loop-id-preserved c =
    let loop = c.loop-id in
    turn c.args.page.now _ loop.page _ c.put_id.new.page _ loop.invariant c.put_id.ensures (ids-turn c.args.extended c.args.ids.now loop.id-index c.loop-id-test.true)
