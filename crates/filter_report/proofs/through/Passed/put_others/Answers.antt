-- `filter_report::through::Passed::put_others` meets its contract: at each turn one number more is asked for, and put if it is not listed. Assumes nothing.
use Rattle.std.proofs.Common.{arith, rules, ◌≡◌, ◌<◌, ◌∙◌, ap, true, false, List, ℕ, ◌++◌, take, length}
use Rattle.filter_report.specs.Listed.{ids_text}
use Rattle.filter_report.specs.Through.{members_of, occurs, without}
use Rattle.filter_report.proofs.Page.{empty, long, turn}
use Rattle.filter_report.proofs.Ids.{ids-none, ids-long}
use Rattle.filter_report.proofs.Unlisted.{without-none, turn-listed, turn-other, turn-room}
use Rattle.filter_report.proofs.through.Passed.put_others.Goals as goal
use Rattle.filter_report.proofs.through.Passed.put_others.Goals.{then-not-occurs, else-not-occurs}

pub loop-k-init : goal.loop-k-init
loop-k-init c = empty c.args.page.now _ (ap (ids_text c.args.extended) (without-none c.args.list.now) ∙ ids-none c.args.extended)

pub put_id-requires : goal.put_id-requires
put_id-requires c =
    let loop = c.loop-k in
    let list = c.args.list.now in
    let members = members_of c.args.self.now.pattern.now in
    let front = without list (take loop.k members) in
    let inside : loop.k < length members = omega (arith, c.args.self.now.counted, c.loop-k-test.true) in
    let other : occurs c.member-id.result list ≡ false = search rules in
    let room = turn-room list members loop.k inside c.args.extended c.member-id.result c.member-id.ensures other in
    omega (arith, c.requires, room, long c.args.page.now (ids_text c.args.extended front) loop.page loop.invariant, ids-long c.args.extended front)

pub loop-k-preserved : goal.loop-k-preserved
loop-k-preserved c =
    let loop = c.loop-k in
    let list = c.args.list.now in
    let members = members_of c.args.self.now.pattern.now in
    let inside : loop.k < length members = omega (arith, c.args.self.now.counted, c.loop-k-test.true) in
    elim c.if-not-occurs.branch [
      | then-not-occurs w ↦
          let other : occurs c.member-id.result list ≡ false = search rules in
          w.page-is ∙ turn c.args.page.now _ loop.page _ w.put_id.new.page _ loop.invariant w.put_id.ensures (turn-other list members loop.k inside c.args.extended c.member-id.result c.member-id.ensures other)
      | else-not-occurs w ↦
          let listed : occurs c.member-id.result list ≡ true = search rules in
          w.page-is ∙ loop.invariant ∙ ap (λ (l : List ℕ). c.args.page.now ++ l) (turn-listed list members loop.k inside c.args.extended c.member-id.result c.member-id.ensures listed)
    ]
