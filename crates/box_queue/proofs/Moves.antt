-- More places do not always keep more: of three frames in the FIFO, a queue of one place loses the second, which ends the moves, so the
-- third stays in the FIFO; a queue of two places loses the third. By computing the moves. Assumes nothing.
use mathlib.Core.Path.{◌≡◌, refl}
use mathlib.Core.List.{[], ◌∷◌}
use mathlib.Core.Option.{some}
use Rattle.box_records.specs.declared.Record.{Record}
use Rattle.box_queue.specs.Ring.{empty_queue, queue_ok, offer_of}
use Rattle.box_queue.specs.Moves.{moves}

pub one_place : (a b c : Record) → moves 1 (a ∷ b ∷ c ∷ []) (empty_queue 1) ≡ record { fifo = c ∷ []; queue = a ∷ []; lost = some b }
unfolding offer_of queue_ok
one_place a b c = refl

pub two-places : (a b c : Record) → moves 2 (a ∷ b ∷ c ∷ []) (empty_queue 2) ≡ record { fifo = []; queue = a ∷ b ∷ []; lost = some c }
unfolding offer_of queue_ok
two-places a b c = refl
