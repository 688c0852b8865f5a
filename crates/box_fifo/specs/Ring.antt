-- The FIFO's entries, their weight, its rules, and what an arrival, a look at the front and a release are.
-- Source: the outline, "The box".
use Rattle.std.specs.Prelude.{ℕ, zero, suc, ◌+◌, ◌-◌, ◌%◌, Bool, true, false, cond, ◌&&◌, List, [], ltb, leb, eqb, get_or, set, replicate}
use Rattle.laws.specs.Tabulate.{tabulate}
use Rattle.frame_info.specs.Info.{extended_of, data_length_of}
use Rattle.box_fifo.specs.declared.Entry.{Entry}
use Rattle.box_fifo.specs.declared.Fifo.{Fifo}
use Rattle.box_fifo.specs.declared.Arrival.{Arrival}
use Rattle.box_fifo.specs.declared.Arrival.TheVariants as arrival
use Rattle.box_fifo.specs.declared.Arrived.{Arrived}

-- at most 64 entries, and at most weight 64
abbrev pub entry_limit : ℕ
entry_limit = 64

abbrev pub weight_limit : ℕ
weight_limit = 64

-- a mark weighs 0, a whole entry 3 (extended 5) plus its data length
unfoldable pub weight_of : Entry → ℕ
weight_of e = cond e.mark 0 (cond (extended_of e.bytes) 5 3 + data_length_of e.bytes)

abbrev pub whole_entry : List ℕ → Entry
whole_entry bytes = record { mark = false; bytes = bytes }

abbrev pub mark_entry : Entry
mark_entry = record { mark = true; bytes = replicate 13 0 }

-- what stands past the end of the entries
abbrev pub nowhere : Entry
nowhere = record { mark = false; bytes = [] }

abbrev pub empty_fifo : Fifo
empty_fifo = record { entries = replicate entry_limit mark_entry; head = 0; count = 0; weight = 0 }

-- the entry some places behind the front, which is 0 places behind itself
abbrev pub entry_at : Fifo → ℕ → Entry
entry_at f i = get_or f.entries ((f.head + i) % entry_limit) nowhere

abbrev pub front_of : Fifo → Entry
front_of f = entry_at f 0

-- the entries, the oldest first
abbrev pub entries_of : Fifo → List Entry
entries_of f = tabulate f.count (entry_at f)

-- the weight of the first n entries
unfoldable pub sum_to : Fifo → ℕ → ℕ
sum_to f zero = 0
sum_to f (suc n) = sum_to f n + weight_of (entry_at f n)

abbrev pub sum_of : Fifo → ℕ
sum_of f = sum_to f f.count

-- the head is a place, no more entries than places, the weight at most 64 and the sum of the entries'
unfoldable pub fifo_ok : Fifo → Bool
fifo_ok f = ltb f.head entry_limit && (leb f.count entry_limit && (leb f.weight weight_limit && eqb (sum_of f) f.weight))

-- with an entry stored last
abbrev pub pushed : Fifo → Entry → Fifo
pushed f e =
    record {
      entries = set f.entries ((f.head + f.count) % entry_limit) e;
      head = f.head;
      count = f.count + 1;
      weight = f.weight + weight_of e;
    }

-- without its front, whose place is used again
abbrev pub without_front : Fifo → Fifo
without_front f =
    record {
      entries = f.entries;
      head = (f.head + 1) % entry_limit;
      count = f.count - 1;
      weight = f.weight - weight_of (front_of f);
    }

-- the front leaves; an empty FIFO stays as it is
abbrev pub released : Fifo → Fifo
released f = cond (eqb f.count 0) f (without_front f)

-- what became of an arrival
pub data Outcome : Type 0 where
  not_recorded marked stored : Outcome

-- at 64 entries it is not recorded; else if the weight would pass 64 it leaves a mark; else it is stored whole
unfoldable pub arrive_of : Fifo → List ℕ → Outcome × Fifo
arrive_of f frame =
    cond (leb entry_limit f.count) (not_recorded, f)
    (cond (ltb weight_limit (f.weight + weight_of (whole_entry frame))) (marked, pushed f mark_entry)
    (stored, pushed f (whole_entry frame)))

abbrev pub arrival_said : Arrival → Outcome
arrival_said arrival.Whole = stored
arrival_said arrival.Mark = marked
arrival_said arrival.NotRecorded = not_recorded

abbrev pub arrived_said : Arrived → Outcome × Fifo
arrived_said r = (arrival_said r.answer, r.state)
