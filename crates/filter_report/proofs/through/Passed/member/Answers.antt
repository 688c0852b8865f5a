-- `filter_report::through::Passed::member` meets its contract: at each turn one bit more of the number is known. Assumes nothing.
use Rattle.filter_report.proofs.Members.{known-turn, known-end}
use Rattle.filter_report.proofs.through.Passed.member.Goals as goal

pub loop-character-preserved : goal.loop-character-preserved
loop-character-preserved c =
    let loop = c.loop-character in
    let next = c.halve-next.ensures in
    known-turn c.args.self.now.pattern.now c.args.k loop.n loop.size loop.left loop.character-index _ _ _ c.loop-character-test.true loop.invariant next.0 next.1

pub returns : goal.returns
returns c =
    let loop = c.loop-character in
    known-end c.args.self.now.pattern.now c.args.k loop.n loop.size loop.left loop.character-index c.loop-character-test.false loop.invariant
