-- What a sequence of calls comes to: whole actions, in which each drain does what it owes.
-- Source: the outline, "The box", whole actions and what each drain that ran contributes.
use Rattle.std.specs.Prelude.{◌≡◌, Bool, true, false, List, [], ◌∷◌, ◌++◌}
use Rattle.std.proofs.Math.Option.{Option, none, some}
use Rattle.box_model.specs.Lists.{Kit, Action, Did, noticed, moved, nothing, State, dids, after}
use Rattle.box_model.specs.Calls.{Event}
use Rattle.box_model.specs.Log.{Class, drains, fifo, queue, only, side, actions, starts, at_release}

module _ (K : Kit) where
  open K use {Record, Words, due, receive}

  -- what a drain owes: its notice if due and, with receive set, moves up to a lost one or a look that finds nothing
  pub data Moves : List (Did K) → Type 0 where
    found_nothing : Moves (nothing ∷ [])
    lost-one : {r s : Record} → Moves (moved r (some s) ∷ [])
    one_more : {r : Record} {ds : List (Did K)} → Moves ds → Moves (moved r none ∷ ds)

  pub data Received : Bool → List (Did K) → Type 0 where
    no-moves : Received false []
    moves : {ds : List (Did K)} → Moves ds → Received true ds

  pub data Owed : Bool → Bool → List (Did K) → Type 0 where
    no-notice : {r : Bool} {ds : List (Did K)} → Received r ds → Owed false r ds
    one-notice : {r : Bool} {x : Option Record} {ds : List (Did K)} → Received r ds → Owed true r (noticed x ∷ ds)

  pub data AllOwed : List Words → List (Did K) → Type 0 where
    no_more : AllOwed [] []
    drain : {w : Words} {ws : List Words} {ds es : List (Did K)} → Owed (due w) (receive w) ds → AllOwed ws es → AllOwed (w ∷ ws) (ds ++ es)

  -- the demand, of the log of calls from a fresh box and the lists after them
  pub record Whole (log : List (Event K)) (t : State K) : Type 0 where
    -- there are whole actions
    pub acts : List (Action K)
    -- that lead to the same FIFO and the same queue
    pub ends : after K ([], []) acts ≡ t
    -- whose arrivals, whose takes and whose drains' actions are those of the calls, each in its order, with the same answers and lost records
    pub same : (c : Class) → only K c (dids K ([], []) acts) ≡ only K c (actions K log)
    -- whose drains' actions are what the drains that ran owe, no more, no fewer
    pub owed : AllOwed (starts K log) (only K drains (dids K ([], []) acts))
    -- and in which arrivals and drains' actions stand in the order of the calls, each move at its release
    pub fifo-order : side K fifo (dids K ([], []) acts) ≡ side K fifo (at_release K log)
    -- and takes and drains' actions, each move at its offer
    pub queue-order : side K queue (dids K ([], []) acts) ≡ side K queue (actions K log)
