-- `filter_report::text_of` meets its contract: a text is too long, or read. Assumes nothing.
use Rattle.std.proofs.Common.{length}
use borrow.Author.Tests.{le-leb, lt-leb}
use Rattle.filter_report.specs.Text.{text_of}
use Rattle.filter_report.proofs.text_of.Goals as goal

pub returns-then-text-gt-TEXT_LIMIT : goal.returns-then-text-gt-TEXT_LIMIT
unfolding text_of
returns-then-text-gt-TEXT_LIMIT c = rw (lt-leb (length c.args.text.now) 65536 c.if-text-gt-TEXT_LIMIT.true) c.plain_text.ensures

pub returns : goal.returns
unfolding text_of
returns c = rw (le-leb (length c.args.text.now) 65536 c.if-text-gt-TEXT_LIMIT.false) c.read_text.ensures
