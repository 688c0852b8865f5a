-- `filter_report::through::occurs` meets its contract: the library's test is the definition's. Assumes nothing.
use mathlib.Core.Path.{◌∙◌}
use Rattle.filter_report.proofs.Unlisted.{occurs_is}
use Rattle.filter_report.proofs.through.occurs.Goals as goal

pub returns : goal.returns
returns c = c.contains.ensures.value ∙ occurs_is c.args.n c.args.list.now
