-- `filter_matcher::compare` meets its contract: the kind is judged, and a filter of that kind answers. Assumes nothing.
use Rattle.std.proofs.Common.{rules}
use mathlib.Core.Path.{ap, ◌∙◌}
use Rattle.laws.specs.Said.{gives}
use Rattle.filter_matcher.specs.Words.{compare_of, agrees_of}
use Rattle.filter_matcher.proofs.Judged.{judged_given, judged_refused}
use Rattle.filter_matcher.proofs.compare.Goals as goal

pub returns-in_err-kind : goal.returns-in_err-kind
unfolding compare_of
returns-in_err-kind c = let e = judged_refused c.args.kind (λ dual. agrees_of dual c.args.code c.args.mask c.args.shown) _ _ c.in_err-kind.ensures in search rules

pub returns : goal.returns
unfolding compare_of
returns c = ap gives c.accepts.ensures ∙ judged_given c.args.kind (λ dual. agrees_of dual c.args.code c.args.mask c.args.shown) _ c.in_ok-kind.ensures
