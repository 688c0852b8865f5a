-- `filter_report::through::Passed::member` meets its contract: at each turn one bit more of the number is known. Assumes nothing.
use Rattle.filter_report.proofs.Members.{Known}
use Rattle.filter_report.proofs.through.Passed.member.Given as goal

abbrev pub invariant-loop-character : goal.invariant-loop-character
invariant-loop-character l = Known l.self.pattern.now l.k l.n l.size l.left l.character-index
