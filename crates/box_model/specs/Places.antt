-- Every recorded arrival ends in exactly one place. Positions are carried by the same model over numbered entries.
-- Source: the outline, "The box": an arrival is told by its position in the sequence, and a mark counts as recorded.
use Rattle.std.specs.Prelude.{ℕ, suc, ◌+◌, ◌≡◌, List, [], ◌∷◌, ◌++◌, map, eqb, get_or}
use Rattle.std.proofs.Math.Option.{Option, none, some}
use Rattle.laws.specs.Row.{bit}
use Rattle.box_fifo.specs.Ring.{Outcome, not_recorded, marked, stored}
use Rattle.box_model.specs.Lists.{Kit, Did, arrived, took, noticed, moved, nothing}
use Rattle.box_model.specs.Calls.{Call, arrives, takes, start, step, Phase, to_notice, to_look, to_miss, to_copy, to_release, to_offer, to_finish, Drain, idle, busy, Box, box, lists, fresh, Event, did, started, quiet, released, refused, run, end}
use Rattle.box_model.specs.Log.{actions}
use Rattle.box_model.specs.Demand.{Whole}

-- an arrival that was recorded counts
abbrev pub counted : Outcome → ℕ
counted not_recorded = 0
counted marked = 1
counted stored = 1

module _ (K : Kit) where
  open K use {Frame, Entry, Record, whole, mark, copy}

  -- the entries that a log recorded, the records taken, the records lost
  abbrev pub made : Frame → Outcome → List Entry
  made a not_recorded = []
  made a marked = mark a ∷ []
  made a stored = whole a ∷ []

  abbrev pub one : Option Record → List Record
  one none = []
  one (some r) = r ∷ []

  abbrev pub recorded : List (Did K) → List Entry
  recorded [] = []
  recorded (arrived a o ∷ ds) = made a o ++ recorded ds
  recorded (took x ∷ ds) = recorded ds
  recorded (noticed x ∷ ds) = recorded ds
  recorded (moved r x ∷ ds) = recorded ds
  recorded (nothing ∷ ds) = recorded ds

  abbrev pub removed : List (Did K) → List Record
  removed [] = []
  removed (arrived a o ∷ ds) = removed ds
  removed (took x ∷ ds) = one x ++ removed ds
  removed (noticed x ∷ ds) = removed ds
  removed (moved r x ∷ ds) = removed ds
  removed (nothing ∷ ds) = removed ds

  abbrev pub lost : List (Did K) → List Record
  lost [] = []
  lost (arrived a o ∷ ds) = lost ds
  lost (took x ∷ ds) = lost ds
  lost (noticed x ∷ ds) = one x ++ lost ds
  lost (moved r x ∷ ds) = one x ++ lost ds
  lost (nothing ∷ ds) = lost ds

  -- a measure of records, summed over records and over entries
  module _ (φ : Record → ℕ) where
    abbrev pub sum : List Record → ℕ
    sum [] = 0
    sum (r ∷ q) = φ r + sum q

    abbrev pub sum_e : List Entry → ℕ
    sum_e [] = 0
    sum_e (e ∷ f) = φ (copy e) + sum_e f

  -- which calls recorded an arrival: 1 or 0 for each
  abbrev pub flag : Event K → ℕ
  flag (did (arrived a o)) = counted o
  flag (did (took x)) = 0
  flag (did (noticed x)) = 0
  flag (did (moved r x)) = 0
  flag (did nothing) = 0
  flag (started w) = 0
  flag quiet = 0
  flag released = 0
  flag (refused n) = 0

-- positions: the same box whose entries and records carry the position of their arrival in the sequence of calls
abbrev pub tag : Kit → Kit
tag K = record {
  Frame = ℕ × K.Frame;
  Entry = ℕ × K.Entry;
  Record = Option ℕ × K.Record;
  Words = K.Words;
  whole = λ x. (x.0, K.whole x.1);
  mark = λ x. (x.0, K.mark x.1);
  is_whole = λ e. K.is_whole e.1;
  weigh = λ e. K.weigh e.1;
  copy = λ e. (some e.0, K.copy e.1);
  bus_off = (none, K.bus_off);
  due = K.due;
  receive = K.receive;
  places = K.places;
}

abbrev pub is_at : ℕ → Option ℕ → ℕ
is_at p none = 0
is_at p (some n) = bit (eqb n p)

module _ (K : Kit) where
  abbrev pub number : ℕ → List (Call K) → List (Call (tag K))
  number n [] = []
  number n (arrives a ∷ cs) = arrives (n, a) ∷ number (suc n) cs
  number n (takes ∷ cs) = takes ∷ number (suc n) cs
  number n (start w ∷ cs) = start w ∷ number (suc n) cs
  number n (step ∷ cs) = step ∷ number (suc n) cs

  -- without the positions
  abbrev pub bare_option : Option (Option ℕ × K.Record) → Option K.Record
  bare_option none = none
  bare_option (some r) = some r.1

  abbrev pub bare_did : Did (tag K) → Did K
  bare_did (arrived a o) = arrived a.1 o
  bare_did (took x) = took (bare_option x)
  bare_did (noticed x) = noticed (bare_option x)
  bare_did (moved r x) = moved r.1 (bare_option x)
  bare_did nothing = nothing

  abbrev pub bare_event : Event (tag K) → Event K
  bare_event (did d) = did (bare_did d)
  bare_event (started w) = started w
  bare_event quiet = quiet
  bare_event released = released
  bare_event (refused n) = refused n

  abbrev pub bare_phase : Phase (tag K) → Phase K
  bare_phase to_notice = to_notice
  bare_phase to_look = to_look
  bare_phase to_miss = to_miss
  bare_phase to_copy = to_copy
  bare_phase (to_release r) = to_release r.1
  bare_phase (to_offer r) = to_offer r.1
  bare_phase to_finish = to_finish

  abbrev pub bare_drain : Drain (tag K) → Drain K
  bare_drain idle = idle
  bare_drain (busy w p) = busy w (bare_phase p)

  abbrev pub bare_entries : List (ℕ × K.Entry) → List K.Entry
  bare_entries f = map (λ (e : ℕ × K.Entry). e.1) f

  abbrev pub bare_records : List (Option ℕ × K.Record) → List K.Record
  bare_records q = map (λ (r : Option ℕ × K.Record). r.1) q

  abbrev pub bare_box : Box (tag K) → Box K
  bare_box (box f q d) = box (bare_entries f) (bare_records q) (bare_drain d)

  abbrev pub bare_call : Call (tag K) → Call K
  bare_call (arrives a) = arrives a.1
  bare_call takes = takes
  bare_call (start w) = start w
  bare_call step = step

  -- how often a position stands among tagged records
  abbrev pub count_at : ℕ → Option ℕ × K.Record → ℕ
  count_at p r = is_at p r.0

  -- the calls numbered; what they did, and the box after them, with positions
  abbrev pub numbered_dids : List (Call K) → List (Did (tag K))
  numbered_dids cs = actions (tag K) (run (tag K) (fresh (tag K)) (number 0 cs))

  abbrev pub numbered_end : List (Call K) → Box (tag K)
  numbered_end cs = end (tag K) (fresh (tag K)) (number 0 cs)

  -- Without the positions this is the log and the box after it. And the number of places at which a position stands (taken, lost, queued, in the FIFO) is 1 if the call
  -- at that position is an arrival that was recorded, and 0 otherwise
  pub record Placed (cs : List (Call K)) (log : List (Event K)) (b : Box K) : Type 0 where
    pub same-run : log ≡ map bare_event (run (tag K) (fresh (tag K)) (number 0 cs))
    pub same_end : b ≡ bare_box (numbered_end cs)
    pub whole-numbered : Whole (tag K) (run (tag K) (fresh (tag K)) (number 0 cs)) (lists (tag K) (numbered_end cs))
    pub one_place : (p : ℕ) → sum (tag K) (count_at p) (removed (tag K) (numbered_dids cs)) + sum (tag K) (count_at p) (lost (tag K) (numbered_dids cs))
        + sum (tag K) (count_at p) (lists (tag K) (numbered_end cs)).1 + sum_e (tag K) (count_at p) (lists (tag K) (numbered_end cs)).0 ≡ get_or (map (flag K) log) p 0
