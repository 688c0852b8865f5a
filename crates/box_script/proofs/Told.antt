-- What is told is loaded again the same: where the bytes of a state stand in a script, a load gives that state, if its numbers are below 256. The sizes
-- of its arrays and words are those of the declared types. Assumes nothing.
use Prim.Native.Nat.{ℕ, ◌+◌, ◌*◌, ◌%◌, ◌^◌, ◌≤◌, ◌<◌}
use mathlib.Core.Path.{◌≡◌, refl, ap, ◌∙◌}
use mathlib.Core.Bool.{Bool, true, false, not}
use mathlib.Core.List.{List, [], ◌∷◌, ◌++◌}
use lib.Dec.{eqb}
use lib.ListN.{length, get_or, get_or-replicate}
use native.Mathlib.Nat.{mod-eq_of_lt}
use native.Mathlib.Omega.{arith}
use borrow.Author.Tests.{le-leb}
use Rattle.laws.specs.Row.{bit, bytes, pack, unpack}
use Rattle.laws.specs.Said.{gives}
use Rattle.laws.specs.Tabulate.{part}
use Rattle.laws.proofs.Bools.{and_yes}
use Rattle.laws.proofs.Row.{pack-unpack}
use Rattle.laws.proofs.Tabulate.{tabulate-ext}
use Rattle.box_records.specs.declared.RecordError.TheVariants.{Overrun, BusOff}
use Rattle.box_records.specs.declared.RecordKind.{RecordKind}
use Rattle.box_records.specs.declared.RecordKind.TheVariants.{Frame, Error}
use Rattle.box_records.specs.declared.Record.{Record}
use Rattle.box_records.specs.Blank.{blank}
use Rattle.box_queue.specs.Ring as Q
use Rattle.box_fifo.specs.declared.Entry.{Entry}
use Rattle.box_fifo.specs.Ring as F
use Rattle.box_state.specs.declared.Phase.{Phase}
use Rattle.box_state.specs.declared.Phase.TheVariants as phase
use Rattle.box_state.specs.declared.ReceiveBox.{ReceiveBox}
use Rattle.box_state.specs.Calls.{fresh_box}
use Rattle.box_script.specs.State.{word_at, words_at, words_bytes, entry_at, entry_bytes, kind_of, record_at, kind_byte, record_bytes, entries_at, fifo_at, entries_bytes, fifo_bytes, places_at, queue_at, places_bytes, queue_bytes, phase_of, phase_byte, firsts_within, encodes_state, state_at, state_bytes}
use Rattle.box_script.specs.Format.{load_at}
use Rattle.box_script.proofs.Answers.{entries-long, places-long, fifo-long, queue_long, state-long}
use Rattle.box_script.proofs.Firsts.{firsts-all}
use Rattle.box_script.proofs.Parts.{tabulate-get_d, part-parts, part-cons, part-texts, part-whole}

-- a mark, a kind and a next step, read from their bytes
mark-read : (m : Bool) → (not (eqb (bit m) 0) ≡ m) × (bit m ≤ 1)
mark-read false = (refl, omega arith)
mark-read true = (refl, omega arith)

kind-read : (k : RecordKind) → (kind_of (kind_byte k) ≡ k) × (kind_byte k ≤ 2)
kind-read Frame = (refl, omega arith)
kind-read (Error Overrun) = (refl, omega arith)
kind-read (Error BusOff) = (refl, omega arith)

phase-read : (p : Phase) → (phase_of (phase_byte p) ≡ p) × (phase_byte p ≤ 7)
unfolding phase_of
phase-read phase.Idle = (refl, omega arith)
phase-read phase.Notice = (refl, omega arith)
phase-read phase.Look = (refl, omega arith)
phase-read phase.Miss = (refl, omega arith)
phase-read phase.Copy = (refl, omega arith)
phase-read phase.Release = (refl, omega arith)
phase-read phase.Offer = (refl, omega arith)
phase-read phase.Finish = (refl, omega arith)

-- the sizes of the declared types, and numbers below 256
pub record Sized (g : ReceiveBox) : Type 0 where
  pub entries : length g.fifo.entries ≡ 64
  pub entry : (i : ℕ) → i < 64 → length (get_or g.fifo.entries i F.nowhere).bytes ≡ 13
  pub fifo : (g.fifo.head < 256) × (g.fifo.count < 256) × (g.fifo.weight < 256)
  pub places : length g.queue.places ≡ 32
  pub place : (i : ℕ) → i < 32 → length (get_or g.queue.places i Q.nowhere).bytes ≡ 13
  pub queue : (g.queue.head < 256) × (g.queue.count < 256)
  pub held : length g.held.bytes ≡ 13
  pub words : (g.words.interrupt < 2 ^ 32) × (g.words.enable < 2 ^ 32) × (g.words.status < 2 ^ 32)

module _ (s : List ℕ) where
  entry_read : (at : ℕ) (e : Entry) → length e.bytes ≡ 13 → part s at 14 ≡ entry_bytes e → (entry_at s at ≡ e) × (get_or s at 0 ≤ 1)
  entry_read at e long p =
      let q = part-cons s 13 14 at (at + 1) (bit e.mark) (part e.bytes 0 13) refl refl p in
      let mark : not (eqb (get_or s at 0) 0) ≡ e.mark = ap (λ (b : ℕ). not (eqb b 0)) q.0 ∙ (mark-read e.mark).0 in
      let frame : part s (at + 1) 13 ≡ e.bytes = q.1 ∙ part-whole 13 e.bytes long in
      ((λ i. record { mark = mark i; bytes = frame i }), omega (arith, q.0, (mark-read e.mark).1))

  record-read : (at : ℕ) (x : Record) → length x.bytes ≡ 13 → part s at 14 ≡ record_bytes x → (record_at s at ≡ x) × (get_or s at 0 ≤ 2)
  record-read at x long p =
      let q = part-cons s 13 14 at (at + 1) (kind_byte x.kind) (part x.bytes 0 13) refl refl p in
      let kind : kind_of (get_or s at 0) ≡ x.kind = ap kind_of q.0 ∙ (kind-read x.kind).0 in
      let frame : part s (at + 1) 13 ≡ x.bytes = q.1 ∙ part-whole 13 x.bytes long in
      ((λ i. record { kind = kind i; bytes = frame i }), omega (arith, q.0, (kind-read x.kind).1))

  word_read : (at w : ℕ) → w < 2 ^ 32 → part s at 4 ≡ unpack (bytes 4) w → word_at s at ≡ w
  word_read at w h p = ap (pack (bytes 4)) p ∙ pack-unpack (bytes 4) w h

  each-entry : (at : ℕ) (es : List Entry) → ((i : ℕ) → i < 64 → length (get_or es i F.nowhere).bytes ≡ 13) → part s at 896 ≡ entries_bytes es
      → (i : ℕ) → i < 64 → (entry_at s (at + 14 * i) ≡ get_or es i F.nowhere) × (get_or s (at + 14 * i) 0 ≤ 1)
  unfolding entries_bytes
  each-entry at es frames p i h =
      let here = part-texts s 64 896 at (λ k. entry_bytes (get_or es k F.nowhere)) refl (λ k. refl) p i h in
      entry_read (at + 14 * i) (get_or es i F.nowhere) (frames i h) here

  entries-read : (at : ℕ) (es : List Entry) → length es ≡ 64 → ((i : ℕ) → i < 64 → length (get_or es i F.nowhere).bytes ≡ 13)
      → part s at 896 ≡ entries_bytes es → (entries_at s at ≡ es) × (firsts_within 64 1 s at ≡ true)
  unfolding entries_at
  entries-read at es long frames p =
      let same = tabulate-ext 64 (λ i. entry_at s (at + 14 * i)) (λ i. get_or es i F.nowhere) (λ i h. (each-entry at es frames p i h).0) in
      (same ∙ tabulate-get_d 64 es F.nowhere long, firsts-all 1 s 64 at (λ i h. (each-entry at es frames p i h).1))

  each-place : (at : ℕ) (xs : List Record) → ((i : ℕ) → i < 32 → length (get_or xs i Q.nowhere).bytes ≡ 13) → part s at 448 ≡ places_bytes xs
      → (i : ℕ) → i < 32 → (record_at s (at + 14 * i) ≡ get_or xs i Q.nowhere) × (get_or s (at + 14 * i) 0 ≤ 2)
  unfolding places_bytes
  each-place at xs frames p i h =
      let here = part-texts s 32 448 at (λ k. record_bytes (get_or xs k Q.nowhere)) refl (λ k. refl) p i h in
      record-read (at + 14 * i) (get_or xs i Q.nowhere) (frames i h) here

  places-read : (at : ℕ) (xs : List Record) → length xs ≡ 32 → ((i : ℕ) → i < 32 → length (get_or xs i Q.nowhere).bytes ≡ 13)
      → part s at 448 ≡ places_bytes xs → (places_at s at ≡ xs) × (firsts_within 32 2 s at ≡ true)
  unfolding places_at
  places-read at xs long frames p =
      let same = tabulate-ext 32 (λ i. record_at s (at + 14 * i)) (λ i. get_or xs i Q.nowhere) (λ i h. (each-place at xs frames p i h).0) in
      (same ∙ tabulate-get_d 32 xs Q.nowhere long, firsts-all 2 s 32 at (λ i h. (each-place at xs frames p i h).1))

  module _ (g : ReceiveBox) (ok : Sized g) where
    fifo-read : (at : ℕ) → part s at 899 ≡ fifo_bytes g.fifo → (fifo_at s at ≡ g.fifo) × (firsts_within 64 1 s at ≡ true)
    fifo-read at p =
        let f = g.fifo in
        let q = part-parts s 896 3 899 at (at + 896) (entries_bytes f.entries) (f.head % 256 ∷ f.count % 256 ∷ f.weight % 256 ∷ []) refl refl (entries-long f.entries) p in
        let es = entries-read at f.entries ok.entries ok.entry q.0 in
        let one = part-cons s 2 3 (at + 896) (at + 897) (f.head % 256) (f.count % 256 ∷ f.weight % 256 ∷ []) refl (omega arith) q.1 in
        let two = part-cons s 1 2 (at + 897) (at + 898) (f.count % 256) (f.weight % 256 ∷ []) refl (omega arith) one.1 in
        let three = part-cons s 0 1 (at + 898) (at + 899) (f.weight % 256) [] refl (omega arith) two.1 in
        let head : get_or s (at + 896) 0 ≡ f.head = one.0 ∙ mod-eq_of_lt ok.fifo.0 in
        let count : get_or s (at + 897) 0 ≡ f.count = two.0 ∙ mod-eq_of_lt ok.fifo.1 in
        let weight : get_or s (at + 898) 0 ≡ f.weight = three.0 ∙ mod-eq_of_lt ok.fifo.2 in
        ((λ i. record { entries = es.0 i; head = head i; count = count i; weight = weight i }), es.1)

    queue-read : (at : ℕ) → part s at 450 ≡ queue_bytes g.queue → (queue_at s at ≡ g.queue) × (firsts_within 32 2 s at ≡ true)
    queue-read at p =
        let r = g.queue in
        let q = part-parts s 448 2 450 at (at + 448) (places_bytes r.places) (r.head % 256 ∷ r.count % 256 ∷ []) refl refl (places-long r.places) p in
        let xs = places-read at r.places ok.places ok.place q.0 in
        let one = part-cons s 1 2 (at + 448) (at + 449) (r.head % 256) (r.count % 256 ∷ []) refl (omega arith) q.1 in
        let two = part-cons s 0 1 (at + 449) (at + 450) (r.count % 256) [] refl (omega arith) one.1 in
        let head : get_or s (at + 448) 0 ≡ r.head = one.0 ∙ mod-eq_of_lt ok.queue.0 in
        let count : get_or s (at + 449) 0 ≡ r.count = two.0 ∙ mod-eq_of_lt ok.queue.1 in
        ((λ i. record { places = xs.0 i; head = head i; count = count i }), xs.1)

    words-read : (at : ℕ) → part s at 12 ≡ words_bytes g.words → words_at s at ≡ g.words
    words-read at p =
        let w = g.words in
        let a : List ℕ = unpack (bytes 4) w.interrupt in
        let b : List ℕ = unpack (bytes 4) w.enable in
        let c : List ℕ = unpack (bytes 4) w.status in
        let q = part-parts s 4 8 12 at (at + 4) a (b ++ c) refl refl refl p in
        let r = part-parts s 4 4 8 (at + 4) (at + 8) b c refl (omega arith) refl q.1 in
        let interrupt = word_read at w.interrupt ok.words.0 q.0 in
        let enable = word_read (at + 4) w.enable ok.words.1 r.0 in
        let status = word_read (at + 8) w.status ok.words.2 r.1 in
        λ i. record { interrupt = interrupt i; enable = enable i; status = status i }

    -- where the bytes of a state stand, a load gives that state
    pub told-loaded : (at : ℕ) → part s at 1376 ≡ state_bytes g → load_at s at ≡ gives g
    unfolding load_at encodes_state state_at state_bytes
    told-loaded at p =
        let last : List ℕ = record_bytes g.held ++ words_bytes g.words in
        let rest : List ℕ = phase_byte g.phase ∷ last in
        let one = part-parts s 899 477 1376 at (at + 899) (fifo_bytes g.fifo) (queue_bytes g.queue ++ rest) refl refl (fifo-long g.fifo) p in
        let two = part-parts s 450 27 477 (at + 899) (at + 1349) (queue_bytes g.queue) rest refl (omega arith) (queue_long g.queue) one.1 in
        let three = part-cons s 26 27 (at + 1349) (at + 1350) (phase_byte g.phase) last refl (omega arith) two.1 in
        let four = part-parts s 14 12 26 (at + 1350) (at + 1364) (record_bytes g.held) (words_bytes g.words) refl (omega arith) refl three.1 in
        let fifo = fifo-read at one.0 in
        let queue = queue-read (at + 899) two.0 in
        let step : phase_of (get_or s (at + 1349) 0) ≡ g.phase = ap phase_of three.0 ∙ (phase-read g.phase).0 in
        let held = record-read (at + 1350) g.held ok.held four.0 in
        let words = words-read (at + 1364) four.1 in
        let state : state_at s at ≡ g = λ i. record { fifo = fifo.0 i; queue = queue.0 i; phase = step i; held = held.0 i; words = words i } in
        let known = le-leb (get_or s (at + 1349) 0) 7 (omega (arith, three.0, (phase-read g.phase).1)) in
        let kind = le-leb (get_or s (at + 1350) 0) 2 held.1 in
        let encodes : encodes_state s at ≡ true = and_yes _ _ fifo.1 (and_yes _ _ queue.1 (and_yes _ _ known kind)) in
        rw encodes (ap gives state)

-- a state is read back from its own bytes
pub own-loaded : (g : ReceiveBox) → Sized g → load_at (state_bytes g) 0 ≡ gives g
own-loaded g ok = told-loaded (state_bytes g) g ok 0 (part-whole 1376 (state_bytes g) (state-long g))

-- the fresh box is such a state
pub fresh-sized : Sized fresh_box
fresh-sized =
    record {
      entries = refl;
      entry = λ i h. ap (λ (e : Entry). length e.bytes) (get_or-replicate 64 i F.mark_entry F.nowhere h);
      fifo = (omega arith, omega arith, omega arith);
      places = refl;
      place = λ i h. ap (λ (x : Record). length x.bytes) (get_or-replicate 32 i blank Q.nowhere h);
      queue = (omega arith, omega arith);
      held = refl;
      words = (omega arith, omega arith, omega arith);
    }
