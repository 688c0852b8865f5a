-- The box over lists: what its FIFO and its queue do, and whole actions on them. A `Kit` says what the lists hold.
-- Source: the outline, "The box".
use Rattle.std.specs.Prelude.{ℕ, ◌+◌, Bool, true, false, List, [], ◌∷◌, ◌++◌, leb, ltb, length}
use Rattle.std.proofs.Math.Option.{Option, none, some}
use Rattle.box_fifo.specs.Ring.{entry_limit, weight_limit, Outcome, not_recorded, marked, stored}

-- what arrives, what the FIFO and the queue hold, and the words of a start
pub record Kit : Type 1 where
  pub Frame : Type 0
  pub Entry : Type 0
  pub Record : Type 0
  pub Words : Type 0
  pub whole : Frame → Entry
  pub mark : Frame → Entry
  pub is_whole : Entry → Bool
  pub weigh : Entry → ℕ
  pub copy : Entry → Record
  pub bus_off : Record
  pub due : Words → Bool
  pub receive : Words → Bool
  pub places : ℕ

module _ (K : Kit) where
  open K use {Frame, Entry, Record, whole, mark, weigh, copy, bus_off, places}

  -- the FIFO, oldest first
  abbrev pub weight : List Entry → ℕ
  weight [] = 0
  weight (e ∷ es) = weigh e + weight es

  -- a full FIFO; the weight fits
  abbrev pub entered : Bool → Bool → List Entry → Frame → Outcome × List Entry
  entered true fits f a = (not_recorded, f)
  entered false false f a = (marked, f ++ (mark a ∷ []))
  entered false true f a = (stored, f ++ (whole a ∷ []))

  abbrev pub enter : List Entry → Frame → Outcome × List Entry
  enter f a = entered (leb entry_limit (length f)) (leb (weight f + weigh (whole a)) weight_limit) f a

  -- the queue, oldest first: what is taken, and what is left
  abbrev pub taken : List Record → Option Record × List Record
  taken [] = (none, [])
  taken (r ∷ q) = (some r, q)

  -- what is lost, and the queue after
  abbrev pub offered : Bool → List Record → Record → Option Record × List Record
  offered true q r = (none, q ++ (r ∷ []))
  offered false q r = (some r, q)

  abbrev pub offer : List Record → Record → Option Record × List Record
  offer q r = offered (ltb (length q) places) q r

  -- whole actions: `look` is a move, or a look that finds nothing: what it did says which
  pub data Action : Type 0 where
    arrive : Frame → Action
    take notice look : Action

  -- an action with its answer: `arrived` says the outcome, `took` what was taken, `noticed` the lost record if any, `moved` the record moved and the lost one
  pub data Did : Type 0 where
    arrived : Frame → Outcome → Did
    took : Option Record → Did
    noticed : Option Record → Did
    moved : Record → Option Record → Did
    nothing : Did

  abbrev pub State : Type 0
  State = List Entry × List Record

  abbrev pub looked : List Entry → List Record → Did × State
  looked [] q = (nothing, ([], q))
  looked (e ∷ f) q = (moved (copy e) (offer q (copy e)).0, (f, (offer q (copy e)).1))

  abbrev pub act : State → Action → Did × State
  act s (arrive a) = (arrived a (enter s.0 a).0, ((enter s.0 a).1, s.1))
  act s take = (took (taken s.1).0, (s.0, (taken s.1).1))
  act s notice = (noticed (offer s.1 bus_off).0, (s.0, (offer s.1 bus_off).1))
  act s look = looked s.0 s.1

  -- what a sequence of whole actions did, and the lists after it
  abbrev pub dids : State → List Action → List Did
  dids s [] = []
  dids s (a ∷ acts) = (act s a).0 ∷ dids (act s a).1 acts

  abbrev pub after : State → List Action → State
  after s [] = s
  after s (a ∷ acts) = after (act s a).1 acts
