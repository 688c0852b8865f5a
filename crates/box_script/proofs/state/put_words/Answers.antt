-- `put_words`: each word behind the one before it. Assumes nothing.
use mathlib.Core.Path.{◌≡◌, ap, ◌∙◌}
use lib.ListN.{length}
use borrow.Author.Rules.{rules}
use Rattle.laws.specs.Row.{bytes, unpack}
use Rattle.box_script.proofs.StateLaid.{word-told, words-laid}
use Rattle.box_script.proofs.state.put_words.Goals as goal

pub returns : goal.returns
returns c =
    let v = c.args.words in
    let i : c.copy_from_slice.new.self ≡ unpack (bytes 4) v.interrupt = c.copy_from_slice.ensures.after ∙ c.to_be_bytes.ensures ∙ word-told v.interrupt (search rules) in
    let e : c.copy_from_slice-2.new.self ≡ unpack (bytes 4) v.enable = c.copy_from_slice-2.ensures.after ∙ c.to_be_bytes-2.ensures ∙ word-told v.enable (search rules) in
    let s : c.copy_from_slice-3.new.self ≡ unpack (bytes 4) v.status = c.copy_from_slice-3.ensures.after ∙ c.to_be_bytes-3.ensures ∙ word-told v.status (search rules) in
    words-laid c.args.out.now c.copy_from_slice.new.self c.copy_from_slice-2.new.self c.copy_from_slice-3.new.self c.requires (ap length i) (ap length e) (ap length s)
    ∙ rw (i, e, s)
