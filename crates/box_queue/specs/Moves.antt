-- A drain's moves as the queue decides them: the front of the FIFO is offered, and so on until a record is lost or none is left.
-- Source: the outline, "The box", step 3.
use Rattle.std.specs.Prelude.{ℕ, Bool, true, false, List, [], ◌∷◌}
use Rattle.std.proofs.Math.Option.{Option, none, some}
use Rattle.laws.specs.Said.{Said, refuses, gives}
use Rattle.box_records.specs.declared.Record.{Record}
use Rattle.box_queue.specs.declared.Queue.{Queue}
use Rattle.box_queue.specs.Ring.{offer_of}
use Rattle.box_queue.specs.View.{view}

-- what the moves leave: the records still in the FIFO, those in the queue, and the one that was lost
pub record Moved : Type 0 where
  pub fifo : List Record
  pub queue : List Record
  pub lost : Option Record

abbrev go_on : ℕ → Record → List Record → Queue → Said Bool → (Queue → Moved) → Moved
go_on n x xs q (gives true) more = more q
go_on n x xs q (gives false) more = record { fifo = xs; queue = view n q; lost = some x }
go_on n x xs q (refuses number carried) more = record { fifo = x ∷ xs; queue = view n q; lost = none }

abbrev pub moves : ℕ → List Record → Queue → Moved
moves n [] q = record { fifo = []; queue = view n q; lost = none }
moves n (x ∷ xs) q = go_on n x xs (offer_of n q x).1 (offer_of n q x).0 (moves n xs)
