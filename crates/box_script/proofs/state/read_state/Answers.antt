-- `read_state`: each part is read, or refused as the whole is. Assumes nothing.
use Prim.{tt}
use Prim.Native.Nat.{ℕ, ◌+◌, ◌*◌}
use mathlib.Core.Path.{◌≡◌, sym, ap, ◌∙◌}
use mathlib.Core.Bool.{Bool, true, false}
use mathlib.Core.List.{List}
use lib.Dec.{leb}
use lib.ListN.{length, get_or}
use borrow.Author.Rules.{rules}
use Rattle.laws.specs.Said.{gives}
use Rattle.laws.specs.Tabulate.{tabulate}
use Rattle.box_records.specs.declared.Record.{Record}
use Rattle.box_fifo.specs.declared.Entry.{Entry}
use Rattle.box_state.specs.declared.ReceiveBox.{ReceiveBox}
use Rattle.box_state.specs.Calls.{fresh_box}
use Rattle.box_script.specs.State.{entry_at, record_at, firsts_within}
use Rattle.box_script.proofs.Read.{judged-good, judged-bad, no-entries, no-places, no_step, no_held, all-loaded, state-read}
use Rattle.box_script.proofs.state.read_state.Goals as goal

-- the fresh box has as many entries and places as a state
entries-of : (g h : ReceiveBox) (s : List ℕ) (at : ℕ) (b : Bool) → g ≡ h → firsts_within (length g.fifo.entries) 1 s at ≡ b → firsts_within (length h.fifo.entries) 1 s at ≡ b
entries-of g h s at b e p = ap (λ (x : ReceiveBox). firsts_within (length x.fifo.entries) 1 s at) (sym e) ∙ p

places-of : (g h : ReceiveBox) (s : List ℕ) (at : ℕ) (b : Bool) → g ≡ h → firsts_within (length g.queue.places) 2 s at ≡ b → firsts_within (length h.queue.places) 2 s at ≡ b
places-of g h s at b e p = ap (λ (x : ReceiveBox). firsts_within (length x.queue.places) 2 s at) (sym e) ∙ p

pub returns-in_err-state : goal.returns-in_err-state
returns-in_err-state c =
    let s = c.args.script.now in
    let at = c.args.at in
    let bad = judged-bad (leb (get_or s (at + 1349) 0) 7) _ _ (sym c.try_from.ensures ∙ c.in_err-state.was) in
    let broken = bad.1 in
    rw (no_step s at bad.0) (search rules)

pub returns-in_err-state-2 : goal.returns-in_err-state-2
returns-in_err-state-2 c =
    let s = c.args.script.now in
    let at = c.args.at in
    let bad = judged-bad (leb (get_or s (at + 1350) 0) 2) _ _ (sym c.read.ensures ∙ c.in_err-state-2.was) in
    let broken = bad.1 in
    rw (no_held s at bad.0) (search rules)

pub returns-in_err-read_parts-2 : goal.returns-in_err-read_parts-2
returns-in_err-read_parts-2 c =
    let s = c.args.script.now in
    let at = c.args.at in
    let f = c.fresh-state.result in
    let bad = judged-bad (firsts_within (length f.queue.places) 2 s (at + 899)) tt _ (sym c.read_parts-2.ensures.value ∙ c.in_err-read_parts-2.was) in
    let broken = bad.1 in
    rw (no-places s at (places-of f fresh_box s (at + 899) false c.fresh-state.ensures bad.0)) (search rules)

pub returns-in_err-read_parts : goal.returns-in_err-read_parts
returns-in_err-read_parts c =
    let s = c.args.script.now in
    let at = c.args.at in
    let f = c.fresh-state.result in
    let bad = judged-bad (firsts_within (length f.fifo.entries) 1 s at) tt _ (sym c.read_parts.ensures.value ∙ c.in_err-read_parts.was) in
    let broken = bad.1 in
    rw (no-entries s at (entries-of f fresh_box s at false c.fresh-state.ensures bad.0)) (search rules)

pub returns : goal.returns
returns c =
    let s = c.args.script.now in
    let at = c.args.at in
    let f = c.fresh-state.result in
    let one = judged-good (firsts_within (length f.fifo.entries) 1 s at) tt _ (sym c.read_parts.ensures.value ∙ c.in_ok-read_parts.was) in
    let two = judged-good (firsts_within (length f.queue.places) 2 s (at + 899)) tt _ (sym c.read_parts-2.ensures.value ∙ c.in_ok-read_parts-2.was) in
    let three = judged-good (leb (get_or s (at + 1349) 0) 7) _ _ (sym c.try_from.ensures ∙ c.in_ok-state.was) in
    let four = judged-good (leb (get_or s (at + 1350) 0) 2) _ _ (sym c.read.ensures ∙ c.in_ok-state-2.was) in
    let es : c.read_parts.new.parts ≡ tabulate 64 (λ i. entry_at s (at + 14 * i)) =
    c.in_ok-read_parts.ensures.filled ∙ ap (λ (x : ReceiveBox). tabulate {A = Entry} (length x.fifo.entries) (λ i. entry_at s (at + 14 * i))) c.fresh-state.ensures in
    let ps : c.read_parts-2.new.parts ≡ tabulate 32 (λ i. record_at s (at + 899 + 14 * i)) =
    c.in_ok-read_parts-2.ensures.filled ∙ ap (λ (x : ReceiveBox). tabulate {A = Record} (length x.queue.places) (λ i. record_at s (at + 899 + 14 * i))) c.fresh-state.ensures in
    ap gives
    (state-read s at _ _ _ _ _ _ _ _ _ _ es ps c.from-state.ensures c.from-state-2.ensures c.from-state-3.ensures c.from-state-4.ensures c.from-state-5.ensures
    three.1 four.1 c.words_at-state.ensures)
    ∙ sym
    (all-loaded s at (entries-of f fresh_box s at true c.fresh-state.ensures one.0) (places-of f fresh_box s (at + 899) true c.fresh-state.ensures two.0) three.0 four.0)
