-- What the two orders of `Whole` rule out: a look that finds nothing although an entry stands in the FIFO, a take that finds nothing although a record
-- stands in the queue. Assumes nothing.
use Prim.Native.Nat.{ℕ, ◌+◌}
use mathlib.Core.Path.{◌≡◌, ap}
use mathlib.Core.Bool.{Bool, true, false}
use mathlib.Core.Option.{none}
use mathlib.Core.List.{List, [], ◌∷◌}
use lib.Dec.{leb, ltb}
use native.Mathlib.Omega.{arith}
use Rattle.box_fifo.specs.Ring.{weight_limit, stored}
use Rattle.box_model.specs.Lists.{Kit, State, Action, arrive, take, notice, look, Did, arrived, took, moved, nothing, entered, enter, taken, offered, dids}
use Rattle.box_model.specs.Calls.{did, started, quiet, released}
use Rattle.box_model.specs.Log.{side, fifo, queue}
use Rattle.box_model.specs.Demand.{Whole}

module _ (K : Kit) where
  open K use {Frame, Entry, Record, Words, whole, weigh, copy, bus_off, places}

  -- the first action that the FIFO sees is no look that finds nothing, where an entry stands in it
  no-blind-look : (acts : List (Action K)) (e : Entry) (f : List Entry) (q : List Record) (ds : List (Did K)) → side K fifo (dids K (e ∷ f, q) acts) ≡ nothing ∷ ds → ⊥
  no-blind-look [] e f q ds h = let z : ◌≡◌ {A = ℕ} 0 1 = cc in omega arith
  no-blind-look (arrive a ∷ acts) e f q ds h = let z : ◌≡◌ {A = ℕ} 0 1 = cc in omega arith
  no-blind-look (take ∷ acts) e f q ds h = no-blind-look acts e f (taken K q).1 ds h
  no-blind-look (notice ∷ acts) e f q ds h = let z : ◌≡◌ {A = ℕ} 0 1 = cc in omega arith
  no-blind-look (look ∷ acts) e f q ds h = let z : ◌≡◌ {A = ℕ} 0 1 = cc in omega arith

  abbrev rest : List (Did K) → List (Did K)
  rest [] = []
  rest (d ∷ ds) = ds

  -- after an arrival at an empty FIFO there is an entry, whole or a mark
  then-look : (fits : Bool) (a : Frame) (acts : List (Action K)) (q : List Record) → side K fifo (dids K ((entered K false fits [] a).1, q) acts) ≡ nothing ∷ [] → ⊥
  then-look true a acts q h = no-blind-look acts (whole a) [] q [] h
  then-look false a acts q h = no-blind-look acts (K.mark a) [] q [] h

  after-arrival : (acts : List (Action K)) (a : Frame) (q : List Record) → side K fifo (dids K ([], q) acts) ≡ arrived a stored ∷ nothing ∷ [] → ⊥
  after-arrival [] a q h = let z : ◌≡◌ {A = ℕ} 0 1 = cc in omega arith
  after-arrival (arrive b ∷ acts) a q h = then-look (leb (0 + weigh (whole b)) weight_limit) b acts q (ap rest h)
  after-arrival (take ∷ acts) a q h = after-arrival acts a (taken K q).1 h
  after-arrival (notice ∷ acts) a q h = let z : ◌≡◌ {A = ℕ} 0 1 = cc in omega arith
  after-arrival (look ∷ acts) a q h = let z : ◌≡◌ {A = ℕ} 0 1 = cc in omega arith

  -- a frame is stored, then a drain's only look finds nothing: no whole actions, whatever lists are left. (Each class for itself could be explained,
  -- by a look before the arrival.)
  pub no-blind-drain : (a : Frame) (w : Words) (t : State K) → Whole K (did (arrived a stored) ∷ started w ∷ did nothing ∷ quiet ∷ []) t → ⊥
  no-blind-drain a w t x = after-arrival x.acts a [] x.fifo-order

  -- the same of a take
  no-blind-take : (acts : List (Action K)) (f : List Entry) (r : Record) (q : List Record) (ds : List (Did K)) → side K queue (dids K (f, r ∷ q) acts) ≡ took none ∷ ds → ⊥
  no-blind-take [] f r q ds h = let z : ◌≡◌ {A = ℕ} 0 1 = cc in omega arith
  no-blind-take (arrive a ∷ acts) f r q ds h = no-blind-take acts (enter K f a).1 r q ds h
  no-blind-take (take ∷ acts) f r q ds h = let z : ◌≡◌ {A = ℕ} 0 1 = cc in omega arith
  no-blind-take (notice ∷ acts) f r q ds h = let z : ◌≡◌ {A = ℕ} 0 1 = cc in omega arith
  no-blind-take (look ∷ acts) [] r q ds h = let z : ◌≡◌ {A = ℕ} 0 1 = cc in omega arith
  no-blind-take (look ∷ acts) (e ∷ f) r q ds h = let z : ◌≡◌ {A = ℕ} 0 1 = cc in omega arith

  -- a move that was stored leaves a record in the queue
  then-take : (fits : Bool) (e : Entry) (f : List Entry) (acts : List (Action K)) (r : Record) (ds : List (Did K))
      → side K queue (moved (copy e) (offered K fits [] (copy e)).0 ∷ dids K (f, (offered K fits [] (copy e)).1) acts) ≡ moved r none ∷ took none ∷ ds → ⊥
  then-take true e f acts r ds h = no-blind-take acts f (copy e) [] ds (ap rest h)
  then-take false e f acts r ds h = let z : ◌≡◌ {A = ℕ} 0 1 = cc in omega arith

  after-move : (acts : List (Action K)) (f : List Entry) (r : Record) (ds : List (Did K)) → side K queue (dids K (f, []) acts) ≡ moved r none ∷ took none ∷ ds → ⊥
  after-move [] f r ds h = let z : ◌≡◌ {A = ℕ} 0 1 = cc in omega arith
  after-move (arrive a ∷ acts) f r ds h = after-move acts (enter K f a).1 r ds h
  after-move (take ∷ acts) f r ds h = let z : ◌≡◌ {A = ℕ} 0 1 = cc in omega arith
  after-move (notice ∷ acts) f r ds h = let z : ◌≡◌ {A = ℕ} 0 1 = cc in omega arith
  after-move (look ∷ acts) [] r ds h = let z : ◌≡◌ {A = ℕ} 0 1 = cc in omega arith
  after-move (look ∷ acts) (e ∷ f) r ds h = then-take (ltb 0 places) e f acts r ds h

  -- a stored move, then a take before the drain goes on: it does not find nothing
  pub no-blind-taking : (a : Frame) (w : Words) (r : Record) (t : State K)
      → Whole K (did (arrived a stored) ∷ started w ∷ quiet ∷ quiet ∷ quiet ∷ released ∷ did (moved r none) ∷ did (took none) ∷ did nothing ∷ quiet ∷ []) t → ⊥
  no-blind-taking a w r t x = after-move x.acts [] r (nothing ∷ []) x.queue-order
