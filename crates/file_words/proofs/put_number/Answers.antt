-- `file_words::put_number` meets its contract: three texts, each behind the last. Assumes nothing.
use Rattle.std.proofs.Common.{rules}
use Rattle.file_words.proofs.Page.{number-added}
use Rattle.file_words.proofs.put_number.Goals as goal

pub returns : goal.returns
returns c =
    number-added c.args.page.now c.args.before.now c.args.behind.now _ _ _ c.args.n (search rules) c.requires c.add.ensures c.add_decimal.ensures c.add-2.ensures
