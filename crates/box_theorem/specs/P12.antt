-- The calls of P12 on the box: 31 frames, each moved to the queue by a drain of its own; then three frames, and a drain with receive set.
-- Source: the outline, "Numbers to check", P12.
use Rattle.std.specs.Prelude.{ℕ, zero, suc, not, List, [], ◌∷◌, ◌++◌, map, length, replicate}
use Rattle.laws.specs.Row.{bit}
use Rattle.box_records.specs.declared.RecordKind.TheVariants.{Frame}
use Rattle.box_records.specs.declared.Record.{Record}
use Rattle.box_fifo.specs.declared.Entry.{Entry}
use Rattle.box_fifo.specs.Ring.{entries_of}
use Rattle.box_words.specs.declared.Words.{Words}
use Rattle.box_state.specs.declared.ReceiveBox.{ReceiveBox}
use Rattle.box_state.specs.Calls.{fresh_box}
use Rattle.box_model.specs.Calls.{Call, arrives, start, step, Event}
use Rattle.box_model.specs.Log.{actions}
use Rattle.box_model.specs.Places.{lost}
use Rattle.box_theorem.specs.Kit.{can}
use Rattle.box_theorem.specs.Run.{run_of, end_of}

-- a standard frame of `n` data bytes, all zero
abbrev pub frame : ℕ → List ℕ
frame n = n ∷ replicate 12 0

abbrev pub framed : ℕ → Record
framed n = record { kind = Frame; bytes = frame n }

-- receive is set, no more
abbrev pub receiving : Words
receiving = record { interrupt = 1; enable = 0; status = 0 }

-- look, miss, copy, release, offer; look; finish
abbrev pub drained : List (Call can)
drained = start receiving ∷ replicate 7 step

abbrev pub times : ℕ → List (Call can) → List (Call can)
times zero cs = []
times (suc n) cs = cs ++ times n cs

abbrev pub before : List (Call can)
before = times 31 (arrives (frame 0) ∷ drained) ++ (arrives (frame 1) ∷ arrives (frame 2) ∷ arrives (frame 3) ∷ [])

-- five steps for each of two moves, and the finish
abbrev pub last_drain : List (Call can)
last_drain = start receiving ∷ replicate 11 step

-- the box before the last drain, what that drain did, and the box after it
abbrev pub box_before : ReceiveBox
box_before = end_of fresh_box before

abbrev pub drain_did : List (Event can)
drain_did = run_of box_before last_drain

abbrev pub box_after : ReceiveBox
box_after = end_of box_before last_drain

-- the number of queued records, a 1 for each whole entry of the FIFO (0 for a mark), and the number of records that a drain lost
abbrev pub queued_in : ReceiveBox → ℕ
queued_in g = g.queue.count

abbrev pub wholes_in : ReceiveBox → List ℕ
wholes_in g = map (λ (e : Entry). bit (not e.mark)) (entries_of g.fifo)

abbrev pub lost_by : List (Event can) → ℕ
lost_by es = length (lost can (actions can es))
