-- A queue as the list of its records, the oldest first.
-- Source: the outline, "The box": a take answers the oldest record, an offer stores its record last.
use Rattle.std.specs.Prelude.{ℕ, ◌+◌, ◌%◌, List, get_or}
use Rattle.laws.specs.Tabulate.{tabulate}
use Rattle.box_records.specs.declared.Record.{Record}
use Rattle.box_queue.specs.declared.Queue.{Queue}
use Rattle.box_queue.specs.Ring.{nowhere}

abbrev pub record_at : ℕ → Queue → ℕ → Record
record_at n q i = get_or q.places ((q.head + i) % n) nowhere

abbrev pub view : ℕ → Queue → List Record
view n q = tabulate q.count (record_at n q)
