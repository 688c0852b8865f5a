-- `put_state`: each part behind the one before it. Assumes nothing.
use mathlib.Core.Path.{◌≡◌, sym, ap, ◌∙◌}
use lib.ListN.{length}
use lib.Seq.{length-take-le}
use native.Mathlib.Omega.{arith}
use borrow.Author.Rules.{rules}
use Rattle.box_queue.specs.Ring as Q
use Rattle.box_fifo.specs.Ring as F
use Rattle.box_script.specs.State.{entry_bytes, record_bytes, entries_bytes, places_bytes}
use Rattle.box_script.proofs.Answers.{entries-long, places-long}
use Rattle.box_script.proofs.StateLaid.{joined-flat, steps-room, state-laid, state-told}
use Rattle.box_script.proofs.state.put_state.Goals as goal

pub slice_bounds-put_parts-end-3 : goal.slice_bounds-put_parts-end-3
slice_bounds-put_parts-end-3 c = sym (length-take-le 896 c.args.out.now (omega arith))

pub put_parts-requires : goal.put_parts-requires
put_parts-requires c =
    let es : length c.args.state.now.fifo.entries ≡ 64 = search rules in
    length-take-le 896 c.args.out.now (omega arith) ∙ omega arith

pub slice_bounds-put_words-end : goal.slice_bounds-put_words-end
unfolding entries_bytes places_bytes
slice_bounds-put_words-end c =
    let g = c.args.state.now in
    let es : c.put_parts.new.out ≡ entries_bytes g.fifo.entries = c.put_parts.ensures ∙ sym (joined-flat entry_bytes F.nowhere 64 g.fifo.entries (search rules)) in
    let ps : c.put_parts-2.new.out ≡ places_bytes g.queue.places = c.put_parts-2.ensures ∙ sym (joined-flat record_bytes Q.nowhere 32 g.queue.places (search rules)) in
    let r : c.put.new.out ≡ record_bytes g.held = c.put.ensures in
    let room = steps-room c.args.out.now c.put_parts.new.out c.put_parts-2.new.out c.put.new.out c.put.new.out
    c.low.result c.low-2.result c.low-3.result c.low-4.result c.low-5.result c.from.result c.requires
    (ap length es ∙ entries-long g.fifo.entries) (ap length ps ∙ places-long g.queue.places) (ap length r) in
    omega (arith, room)

pub returns : goal.returns
unfolding entries_bytes places_bytes
returns c =
    let g = c.args.state.now in
    let es : c.put_parts.new.out ≡ entries_bytes g.fifo.entries = c.put_parts.ensures ∙ sym (joined-flat entry_bytes F.nowhere 64 g.fifo.entries (search rules)) in
    let ps : c.put_parts-2.new.out ≡ places_bytes g.queue.places = c.put_parts-2.ensures ∙ sym (joined-flat record_bytes Q.nowhere 32 g.queue.places (search rules)) in
    let r : c.put.new.out ≡ record_bytes g.held = c.put.ensures in
    state-laid c.args.out.now c.put_parts.new.out c.put_parts-2.new.out c.put.new.out c.put_words.new.out
    c.low.result c.low-2.result c.low-3.result c.low-4.result c.low-5.result c.from.result c.requires
    (ap length es ∙ entries-long g.fifo.entries) (ap length ps ∙ places-long g.queue.places) (ap length r) (ap length c.put_words.ensures)
    ∙ state-told g _ _ _ _ _ _ _ _ _ _ es ps r c.put_words.ensures c.low.ensures c.low-2.ensures c.low-3.ensures c.low-4.ensures c.low-5.ensures c.from.ensures
