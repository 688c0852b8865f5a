-- `put_fourteen`: all thirteen bytes are the part. Assumes nothing.
use mathlib.Core.Path.{◌≡◌}
use lib.ListN.{length}
use borrow.Author.Rules.{rules}
use Rattle.box_script.proofs.Parts.{behind-first}
use Rattle.box_script.proofs.part.put_fourteen.Goals as goal

pub returns : goal.returns
returns c =
    let long : length c.args.beside.now ≡ 13 = search rules in
    rw c.copy_from_slice.ensures.after (behind-first c.args.first c.args.out.now c.args.beside.now c.requires long)
