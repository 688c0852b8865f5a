-- `filter_matcher::accepts` meets its contract: the kind is judged, and what is compared is the registers' words and what the frame shows. Assumes nothing.
use Rattle.std.proofs.Common.{rules}
use mathlib.Core.Path.{ap, ◌∙◌}
use Rattle.laws.specs.Said.{gives}
use Rattle.filter_matcher.specs.Words.{match_of, compare_of, agrees_of}
use Rattle.filter_matcher.specs.Match.{accepts_of}
use Rattle.filter_matcher.proofs.Judged.{judged_given, judged_refused}
use Rattle.filter_matcher.proofs.Positions.{compared}
use Rattle.filter_matcher.proofs.accepts.Goals as goal

pub returns-in_err-kind : goal.returns-in_err-kind
unfolding match_of
returns-in_err-kind c = let e = judged_refused c.args.kind (λ dual. accepts_of dual c.args.registers.now c.args.frame.now) _ _ c.in_err-kind.ensures in search rules

pub returns-in-Single : goal.returns-in-Single
unfolding compare_of
returns-in-Single c =
    ap gives c.accepts.ensures
    ∙ judged_given c.args.kind (λ dual. agrees_of dual c.word-code.result c.word-mask.result c.show.result) _ c.in_ok-kind.ensures
    ∙ compared c.args.kind _ _ c.args.registers.now c.args.frame.now _ c.word-code.ensures c.word-mask.ensures c.show.ensures

pub returns-in-Dual : goal.returns-in-Dual
unfolding compare_of
returns-in-Dual c =
    ap gives c.accepts-in-Dual.ensures
    ∙ judged_given c.args.kind (λ dual. agrees_of dual c.word-code.result c.word-mask.result c.show-in-Dual.result) _ c.in_ok-kind.ensures
    ∙ compared c.args.kind _ _ c.args.registers.now c.args.frame.now _ c.word-code.ensures c.word-mask.ensures c.show-in-Dual.ensures
