-- `file_words::put_refusal` meets its contract: each number has its words. Assumes nothing.
use Rattle.file_words.proofs.Refused.{kind-words, ends-words, count-words, other-words}
use Rattle.file_words.proofs.put_refusal.Goals as goal

pub returns-in-FilterKind : goal.returns-in-FilterKind
returns-in-FilterKind c = kind-words c.args.file.now _ _ _ _ c.in-FilterKind.is c.byte_at.ensures.0 c.put_numbers.ensures

pub returns-in-FileEnds : goal.returns-in-FileEnds
returns-in-FileEnds c = ends-words c.args.file.now _ _ _ c.in-FileEnds.is c.put_numbers-in-FileEnds.ensures

pub returns-in-CountAboveLimit : goal.returns-in-CountAboveLimit
returns-in-CountAboveLimit c = count-words c.args.file.now _ _ _ c.in-CountAboveLimit.is c.put_count.ensures

pub returns-in_default : goal.returns-in_default
returns-in_default c =
    let over = c.in_default in
    other-words c.args.file.now c.args.refusal _ _ _ over.not-FilterKind over.not-FileEnds over.not-CountAboveLimit c.carried.ensures c.requires c.put_number.ensures
