-- The log of a sequence of calls, read: its whole actions, each kind in its order, and the words of the drains that ran.
-- Source: the outline, "The box", whole actions.
use Rattle.std.specs.Prelude.{Bool, true, false, List, [], ◌∷◌, ◌++◌}
use Rattle.box_model.specs.Lists.{Kit, Did, arrived, took, noticed, moved, nothing}
use Rattle.box_model.specs.Calls.{Event, did, started, quiet, released, refused}

-- the three kinds of actions, each of which keeps its order
pub data Class : Type 0 where
  arrivals takings drains : Class

abbrev pub same_class : Class → Class → Bool
same_class arrivals arrivals = true
same_class arrivals takings = false
same_class arrivals drains = false
same_class takings arrivals = false
same_class takings takings = true
same_class takings drains = false
same_class drains arrivals = false
same_class drains takings = false
same_class drains drains = true

-- the FIFO sees arrivals and drains, the queue sees takings and drains
pub data Side : Type 0 where
  fifo queue : Side

abbrev pub sees : Side → Class → Bool
sees fifo arrivals = true
sees fifo takings = false
sees fifo drains = true
sees queue arrivals = false
sees queue takings = true
sees queue drains = true

abbrev pub keep : {A : Type 0} → Bool → A → List A → List A
keep true x xs = x ∷ xs
keep false x xs = xs

module _ (K : Kit) where
  open K use {Words}

  abbrev pub class : Did K → Class
  class (arrived a o) = arrivals
  class (took x) = takings
  class (noticed x) = drains
  class (moved r x) = drains
  class nothing = drains

  abbrev pub only : Class → List (Did K) → List (Did K)
  only c [] = []
  only c (d ∷ ds) = keep (same_class c (class d)) d (only c ds)

  abbrev pub side : Side → List (Did K) → List (Did K)
  side s [] = []
  side s (d ∷ ds) = keep (sees s (class d)) d (side s ds)

  -- the whole actions of a log, in the order in which they were completed: a move stands at its offer; the words of the drains that ran
  abbrev pub actions : List (Event K) → List (Did K)
  actions [] = []
  actions (did d ∷ es) = d ∷ actions es
  actions (started w ∷ es) = actions es
  actions (quiet ∷ es) = actions es
  actions (released ∷ es) = actions es
  actions (refused n ∷ es) = actions es

  abbrev pub starts : List (Event K) → List Words
  starts [] = []
  starts (did d ∷ es) = starts es
  starts (started w ∷ es) = w ∷ starts es
  starts (quiet ∷ es) = starts es
  starts (released ∷ es) = starts es
  starts (refused n ∷ es) = starts es

  -- the same with each move at its release: the move that the next offer completes
  abbrev pub move_of : List (Event K) → List (Did K)
  move_of [] = []
  move_of (did (arrived a o) ∷ es) = move_of es
  move_of (did (took x) ∷ es) = move_of es
  move_of (did (noticed x) ∷ es) = move_of es
  move_of (did (moved r x) ∷ es) = moved r x ∷ []
  move_of (did nothing ∷ es) = move_of es
  move_of (started w ∷ es) = move_of es
  move_of (quiet ∷ es) = move_of es
  move_of (released ∷ es) = move_of es
  move_of (refused n ∷ es) = move_of es

  abbrev pub at_release : List (Event K) → List (Did K)
  at_release [] = []
  at_release (did (arrived a o) ∷ es) = arrived a o ∷ at_release es
  at_release (did (took x) ∷ es) = took x ∷ at_release es
  at_release (did (noticed x) ∷ es) = noticed x ∷ at_release es
  at_release (did (moved r x) ∷ es) = at_release es
  at_release (did nothing ∷ es) = nothing ∷ at_release es
  at_release (started w ∷ es) = at_release es
  at_release (quiet ∷ es) = at_release es
  at_release (released ∷ es) = move_of es ++ at_release es
  at_release (refused n ∷ es) = at_release es
