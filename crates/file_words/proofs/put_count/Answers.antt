-- `file_words::put_count` meets its contract: the count's place tells which one it is. Assumes nothing.
use borrow.Author.Tests.{eq-eqb, ne_eqb}
use Rattle.file_words.specs.Words.{count_words}
use Rattle.file_words.proofs.put_count.Goals as goal

pub returns-then-at-eq0 : goal.returns-then-at-eq0
unfolding count_words
returns-then-at-eq0 c = rw (eq-eqb c.args.at 0 c.if-at-eq0.true, ← c.byte_at.ensures.0) c.put_numbers.ensures

pub returns-else-at-eq0 : goal.returns-else-at-eq0
unfolding count_words
returns-else-at-eq0 c = rw (ne_eqb c.args.at 0 c.if-at-eq0.false, ← c.count_at.ensures) c.put_numbers-else-at-eq0.ensures
