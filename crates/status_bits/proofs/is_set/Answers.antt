-- `status_bits::is_set` meets its contract: a shift brings the bit to the lowest place, and from 32 on a word has none. Assumes nothing.
use Prim.Native.Nat.{◌^◌, ◌<◌}
use borrow.Author.Rules.{rules}
use Rattle.laws.proofs.Bits.{bit-beyond}
use Rattle.status_bits.proofs.is_set.Goals as goal

pub returns-then-position-ge32 : goal.returns-then-position-ge32
returns-then-position-ge32 c =
    let word = c.args.word in
    let small : word < 2 ^ 32 = search rules in
    rw (bit-beyond word 32 c.args.position small c.if-position-ge32.true)
