-- `file_words::words` meets its contract: a file that is read has no words, and a refusal its own. Assumes nothing.
use Rattle.std.proofs.Common.{◌∙◌, sym}
use Rattle.file_words.proofs.Refused.{words-read, words-refused}
use Rattle.file_words.proofs.words.Goals as goal

pub returns-in-Ok : goal.returns-in-Ok
returns-in-Ok c = rw (words-read c.args.file.now c.in-Ok.field-0 (sym c.in-Ok.ensures)) c.lay.ensures

pub returns-in-Err : goal.returns-in-Err
returns-in-Err c =
    let words = c.as_slice.ensures ∙ c.put_refusal.ensures ∙ sym (words-refused c.args.file.now c.in-Err.refusal (sym c.in-Err.ensures)) in
    rw (← words) c.lay-in-Err.ensures
