-- What is loaded is told again the same: where bytes encode a state, the state that is read from them has these bytes. So a load takes each byte
-- for what it is. Where they encode none, the box is told as it was. Assumes nothing.
use Prim.Native.Nat.{ℕ, zero, suc, ◌+◌, ◌*◌, ◌%◌, ◌≤◌}
use mathlib.Core.Path.{◌≡◌, refl, sym, ap, ap₂, ◌∙◌}
use mathlib.Core.Bool.{Bool, true, false, not, ◌&&◌}
use mathlib.Core.List.{List, [], ◌∷◌, ◌++◌, append-nil}
use lib.Dec.{leb, eqb}
use lib.ListN.{get_or}
use native.Mathlib.Nat.{mod-eq_of_lt}
use native.Mathlib.Omega.{arith}
use borrow.Author.Tests.{leb-true}
use Rattle.laws.specs.Row.{bit, bytes, unpack}
use Rattle.laws.specs.Tabulate.{part, Bytes}
use Rattle.laws.proofs.Bools.{both_true}
use Rattle.laws.proofs.Row.{unpack-pack}
use Rattle.laws.proofs.Tabulate.{bytes_fit}
use Rattle.box_queue.specs.Ring as Q
use Rattle.box_fifo.specs.Ring as F
use Rattle.box_state.specs.declared.ReceiveBox.{ReceiveBox}
use Rattle.box_script.specs.State.{word_at, words_at, words_bytes, entry_at, entry_bytes, kind_of, record_at, kind_byte, record_bytes, entries_at, fifo_at, entries_bytes, fifo_bytes, places_at, queue_at, places_bytes, queue_bytes, phase_of, phase_byte, firsts_within, encodes_state, state_at, state_bytes}
use Rattle.box_script.specs.Format.{loads, tells, load_at}
use Rattle.box_script.specs.Answers.{answer_of, answers_of}
use Rattle.box_script.proofs.Firsts.{firsts_at}
use Rattle.box_script.proofs.Parts.{get_d_tabulate, part-split, part-first, part-again, part-joined}

-- a mark, a kind and a next step within their limits
mark-told : (b : ℕ) → b ≤ 1 → bit (not (eqb b 0)) ≡ b
mark-told zero h = refl
mark-told (suc zero) h = refl
mark-told (suc (suc b)) h = absurd (omega arith)

kind-told : (b : ℕ) → b ≤ 2 → kind_byte (kind_of b) ≡ b
kind-told zero h = refl
kind-told (suc zero) h = refl
kind-told (suc (suc zero)) h = refl
kind-told (suc (suc (suc b))) h = absurd (omega arith)

phase-told : (b : ℕ) → b ≤ 7 → phase_byte (phase_of b) ≡ b
unfolding phase_of
phase-told zero h = refl
phase-told (suc zero) h = refl
phase-told (suc (suc zero)) h = refl
phase-told (suc (suc (suc zero))) h = refl
phase-told (suc (suc (suc (suc zero)))) h = refl
phase-told (suc (suc (suc (suc (suc zero))))) h = refl
phase-told (suc (suc (suc (suc (suc (suc zero)))))) h = refl
phase-told (suc (suc (suc (suc (suc (suc (suc zero))))))) h = refl
phase-told (suc (suc (suc (suc (suc (suc (suc (suc b)))))))) h = absurd (omega arith)

module _ (s : List ℕ) where
  entry-told : (at : ℕ) → get_or s at 0 ≤ 1 → entry_bytes (entry_at s at) ≡ part s at 14
  entry-told at h = ap₂ (λ (x : ℕ) (t : List ℕ). x ∷ t) (mark-told (get_or s at 0) h) (part-again s 13 (at + 1)) ∙ sym (part-first s 13 14 at (at + 1) refl refl)

  record-told : (at : ℕ) → get_or s at 0 ≤ 2 → record_bytes (record_at s at) ≡ part s at 14
  record-told at h = ap₂ (λ (x : ℕ) (t : List ℕ). x ∷ t) (kind-told (get_or s at 0) h) (part-again s 13 (at + 1)) ∙ sym (part-first s 13 14 at (at + 1) refl refl)

  entries-told : (at : ℕ) → firsts_within 64 1 s at ≡ true → entries_bytes (entries_at s at) ≡ part s at 896
  unfolding entries_bytes entries_at
  entries-told at e =
      part-joined s 64 896 at (λ i. entry_bytes (get_or (entries_at s at) i F.nowhere)) refl
      (λ i h. ap entry_bytes (get_d_tabulate 64 (λ k. entry_at s (at + 14 * k)) i F.nowhere h) ∙ entry-told (at + 14 * i) (firsts_at 1 s 64 at i e h))

  places-told : (at : ℕ) → firsts_within 32 2 s at ≡ true → places_bytes (places_at s at) ≡ part s at 448
  unfolding places_bytes places_at
  places-told at e =
      part-joined s 32 448 at (λ i. record_bytes (get_or (places_at s at) i Q.nowhere)) refl
      (λ i h. ap record_bytes (get_d_tabulate 32 (λ k. record_at s (at + 14 * k)) i Q.nowhere h) ∙ record-told (at + 14 * i) (firsts_at 2 s 32 at i e h))

  module _ (small : Bytes s) where
    number-told : (at : ℕ) → get_or s at 0 % 256 ≡ get_or s at 0
    number-told at = mod-eq_of_lt (small at)

    word-told : (at : ℕ) → unpack (bytes 4) (word_at s at) ≡ part s at 4
    word-told at = unpack-pack (bytes_fit 4 (λ i. get_or s (at + i) 0) (λ i. small (at + i)))

    words-told : (at : ℕ) → words_bytes (words_at s at) ≡ part s at 12
    words-told at =
        ap₂ (λ (a b : List ℕ). a ++ b) (word-told at) (ap₂ (λ (a b : List ℕ). a ++ b) (word-told (at + 4)) (word-told (at + 8)))
        ∙ ap (λ (t : List ℕ). part s at 4 ++ t) (sym (part-split s 4 4 8 (at + 4) (at + 8) refl (omega arith)))
        ∙ sym (part-split s 4 8 12 at (at + 4) refl refl)

    fifo-told : (at : ℕ) → firsts_within 64 1 s at ≡ true → fifo_bytes (fifo_at s at) ≡ part s at 899
    fifo-told at e =
        ap₂ (λ (a b : List ℕ). a ++ b) (entries-told at e)
        (rw (number-told (at + 896), number-told (at + 897), number-told (at + 898)) (sym (three at)))
        ∙ sym (part-split s 896 3 899 at (at + 896) refl refl)
      where
        three : (at : ℕ) → part s (at + 896) 3 ≡ get_or s (at + 896) 0 ∷ get_or s (at + 897) 0 ∷ get_or s (at + 898) 0 ∷ []
        three at =
            part-first s 2 3 (at + 896) (at + 897) refl (omega arith)
            ∙ ap (λ (t : List ℕ). get_or s (at + 896) 0 ∷ t)
            (part-first s 1 2 (at + 897) (at + 898) refl (omega arith)
            ∙ ap (λ (t : List ℕ). get_or s (at + 897) 0 ∷ t) (part-first s 0 1 (at + 898) (at + 899) refl (omega arith)))

    queue-told : (at : ℕ) → firsts_within 32 2 s at ≡ true → queue_bytes (queue_at s at) ≡ part s at 450
    queue-told at e =
        ap₂ (λ (a b : List ℕ). a ++ b) (places-told at e) (rw (number-told (at + 448), number-told (at + 449)) (sym (two at)))
        ∙ sym (part-split s 448 2 450 at (at + 448) refl refl)
      where
        two : (at : ℕ) → part s (at + 448) 2 ≡ get_or s (at + 448) 0 ∷ get_or s (at + 449) 0 ∷ []
        two at =
            part-first s 1 2 (at + 448) (at + 449) refl (omega arith)
            ∙ ap (λ (t : List ℕ). get_or s (at + 448) 0 ∷ t) (part-first s 0 1 (at + 449) (at + 450) refl (omega arith))

  -- where the parts of a state stand
  state-parts : (at : ℕ)
      → part s at 1376 ≡ part s at 899 ++ (part s (at + 899) 450 ++ (get_or s (at + 1349) 0 ∷ (part s (at + 1350) 14 ++ part s (at + 1364) 12)))
  state-parts at =
      part-split s 899 477 1376 at (at + 899) refl refl
      ∙ ap (λ (t : List ℕ). part s at 899 ++ t)
      (part-split s 450 27 477 (at + 899) (at + 1349) refl (omega arith)
      ∙ ap (λ (t : List ℕ). part s (at + 899) 450 ++ t)
      (part-first s 26 27 (at + 1349) (at + 1350) refl (omega arith)
      ∙ ap (λ (t : List ℕ). get_or s (at + 1349) 0 ∷ t) (part-split s 14 12 26 (at + 1350) (at + 1364) refl (omega arith))))

  -- what the test says of each part
  record Within (at : ℕ) : Type 0 where
    marks : firsts_within 64 1 s at ≡ true
    kinds : firsts_within 32 2 s (at + 899) ≡ true
    step : get_or s (at + 1349) 0 ≤ 7
    held : get_or s (at + 1350) 0 ≤ 2

  within : (at : ℕ) → encodes_state s at ≡ true → Within at
  unfolding encodes_state
  within at e =
      let marks : Bool = firsts_within 64 1 s at in
      let kinds : Bool = firsts_within 32 2 s (at + 899) in
      let step : Bool = leb (get_or s (at + 1349) 0) 7 in
      let held : Bool = leb (get_or s (at + 1350) 0) 2 in
      let one = both_true marks (kinds && (step && held)) e in
      let two = both_true kinds (step && held) one.1 in
      let three = both_true step held two.1 in
      record {
        marks = one.0;
        kinds = two.0;
        step = leb-true (get_or s (at + 1349) 0) 7 three.0;
        held = leb-true (get_or s (at + 1350) 0) 2 three.1;
      }

  module _ (small : Bytes s) (at : ℕ) (e : encodes_state s at ≡ true) where
    pub told-again : state_bytes (state_at s at) ≡ part s at 1376
    unfolding state_bytes state_at
    told-again =
        let w = within at e in
        ap₂ (λ (a b : List ℕ). a ++ b) (fifo-told small at w.marks)
        (ap₂ (λ (a b : List ℕ). a ++ b) (queue-told small (at + 899) w.kinds)
        (ap₂ (λ (x : ℕ) (t : List ℕ). x ∷ t) (phase-told (get_or s (at + 1349) 0) w.step)
        (ap₂ (λ (a b : List ℕ). a ++ b) (record-told (at + 1350) w.held) (words-told small (at + 1364)))))
        ∙ sym (state-parts at)

    -- a load, and the question for the state: the load is good, and the bytes are its own
    pub loaded-told : (g : ReceiveBox) → answers_of g (loads (load_at s at) ∷ tells ∷ []) ≡ 0 ∷ part s at 1376
    unfolding answers_of answer_of load_at
    loaded-told g = rw e (ap (λ (t : List ℕ). 0 ∷ t) (append-nil (state_bytes (state_at s at)) ∙ told-again))

  -- a refused load, and the question for the state: refusal 10, and the box as it was
  pub refused-told : (at : ℕ) → encodes_state s at ≡ false → (g : ReceiveBox) → answers_of g (loads (load_at s at) ∷ tells ∷ []) ≡ 10 ∷ state_bytes g
  unfolding answers_of answer_of load_at
  refused-told at e g = rw e (ap (λ (t : List ℕ). 10 ∷ t) (append-nil (state_bytes g)))
