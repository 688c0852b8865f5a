-- P12: 31 queued, three whole in the FIFO, receive set: one stored, one lost, one left. Computed in the model, which the box's calls run as. Assumes nothing.
use mathlib.Core.Path.{◌≡◌, refl, sym, ap, ◌∙◌}
use mathlib.Core.Bool.{not}
use mathlib.Core.Option.{none, some}
use mathlib.Core.List.{[], ◌∷◌, ◌++◌, map}
use lib.ListN.{length, replicate}
use Rattle.laws.specs.Row.{bit}
use Rattle.laws.proofs.Tabulate.{length-tabulate}
use Rattle.box_queue.specs.Ring.{queue_limit}
use Rattle.box_queue.specs.View.{record_at}
use Rattle.frame_info.specs.Info.{data_length_of}
use Rattle.box_fifo.specs.declared.Entry.{Entry}
use Rattle.box_fifo.specs.Ring.{weight_of, whole_entry, entry_at}
use Rattle.box_words.specs.Due.{receive_due, notice_due}
use Rattle.box_state.specs.declared.ReceiveBox.{ReceiveBox}
use Rattle.box_state.specs.Calls.{fresh_box}
use Rattle.box_state.proofs.Rules.{Good}
use Rattle.box_drain.proofs.Kept.{fresh-good}
use Rattle.box_model.specs.Lists.{moved}
use Rattle.box_model.specs.Calls.{Box, box, idle, lists, run, end, did, started, quiet, released}
use Rattle.box_theorem.specs.Kit.{can, box_of}
use Rattle.box_theorem.specs.P12.{frame, framed, receiving, before, last_drain, box_before, drain_did, box_after, queued_in, wholes_in, lost_by}
use Rattle.box_theorem.proofs.Theorem.{good-from, run_is, end_is, fresh-end}

-- 31 queued, three whole in the FIFO, no drain
pub box-before : box_of box_before ≡ box (whole_entry (frame 1) ∷ whole_entry (frame 2) ∷ whole_entry (frame 3) ∷ []) (replicate 31 (framed 0)) idle
unfolding weight_of data_length_of receive_due notice_due
box-before = fresh-end before ∙ refl

good-before : Good box_before
good-before = good-from before fresh_box fresh-good

-- one is stored, one is left; no drain
pub box-after : box_of box_after ≡ box (whole_entry (frame 3) ∷ []) (replicate 31 (framed 0) ++ (framed 1 ∷ [])) idle
unfolding weight_of data_length_of receive_due notice_due
box-after = end_is last_drain box_before good-before ∙ ap (λ (b : Box can). end can b last_drain) box-before

-- and one is lost, and named: the answers of the last drain
pub drain-did : drain_did
    ≡ started receiving ∷ quiet ∷ quiet ∷ quiet ∷ released ∷ did (moved (framed 1) none) ∷ quiet ∷ quiet ∷ quiet ∷ released ∷ did (moved (framed 2) (some (framed 2))) ∷ quiet ∷ []
unfolding weight_of data_length_of receive_due notice_due
drain-did = run_is last_drain box_before good-before ∙ ap (λ (b : Box can). run can b last_drain) box-before

-- the counts of the box's own queue and FIFO
queue-count : (g : ReceiveBox) → g.queue.count ≡ length (lists can (box_of g)).1
queue-count g = sym (length-tabulate g.queue.count (record_at queue_limit g.queue))

fifo-count : (g : ReceiveBox) → g.fifo.count ≡ length (lists can (box_of g)).0
fifo-count g = sym (length-tabulate g.fifo.count (entry_at g.fifo))

pub queued-before : queued_in box_before ≡ 31
queued-before = queue-count box_before ∙ ap (λ (b : Box can). length (lists can b).1) box-before

pub wholes-before : wholes_in box_before ≡ 1 ∷ 1 ∷ 1 ∷ []
wholes-before = ap (λ (b : Box can). map (λ (e : Entry). bit (not e.mark)) (lists can b).0) box-before

pub queued-after : queued_in box_after ≡ 32
queued-after = queue-count box_after ∙ ap (λ (b : Box can). length (lists can b).1) box-after

pub left_after : box_after.fifo.count ≡ 1
left_after = fifo-count box_after ∙ ap (λ (b : Box can). length (lists can b).0) box-after

pub one-lost : lost_by drain_did ≡ 1
one-lost = ap lost_by drain-did
