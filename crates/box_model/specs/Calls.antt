-- The box over lists, one call at a time: what a call did, and the box after it.
-- Source: the outline, "The box", steps 1 to 4, and refusals 8 and 9.
use Rattle.std.specs.Prelude.{ℕ, Bool, true, false, List, [], ◌∷◌}
use Rattle.std.proofs.Math.Option.{Option, none, some}
use Rattle.box_model.specs.Lists.{Kit, enter, taken, offer, Did, arrived, took, noticed, moved, nothing, State}

module _ (K : Kit) where
  open K use {Frame, Entry, Record, Words, is_whole, copy, bus_off, due, receive}

  pub data Call : Type 0 where
    arrives : Frame → Call
    takes : Call
    start : Words → Call
    step : Call

  -- the step that a running drain takes next
  pub data Phase : Type 0 where
    to_notice to_look to_miss to_copy : Phase
    to_release : Record → Phase
    to_offer : Record → Phase
    to_finish : Phase

  pub data Drain : Type 0 where
    idle : Drain
    busy : Words → Phase → Drain

  pub data Box : Type 0 where
    box : List Entry → List Record → Drain → Box

  abbrev pub lists : Box → State K
  lists (box f q d) = (f, q)

  abbrev pub drain_of : Box → Drain
  drain_of (box f q d) = d

  abbrev pub fresh : Box
  fresh = box [] [] idle

  -- what a call did: a whole action (for a step: the one that it completes), a start, a release, another step that completes none, or a refusal by its number
  pub data Event : Type 0 where
    did : Did K → Event
    started : Words → Event
    quiet : Event
    released : Event
    refused : ℕ → Event

  abbrev pub moving : Bool → Phase
  moving true = to_look
  moving false = to_finish

  abbrev pub first : Bool → Bool → Phase
  first true r = to_notice
  first false r = moving r

  abbrev pub after_offer : Option Record → Phase
  after_offer none = to_look
  after_offer (some r) = to_finish

  abbrev pub after_miss : Bool → Record → Phase
  after_miss true r = to_copy
  after_miss false r = to_release r

  abbrev pub stepped : List Entry → List Record → Words → Phase → Event × Box
  stepped f q w to_notice = (did (noticed (offer K q bus_off).0), box f (offer K q bus_off).1 (busy w (moving (receive w))))
  stepped [] q w to_look = (did nothing, box [] q (busy w to_finish))
  stepped (e ∷ f) q w to_look = (quiet, box (e ∷ f) q (busy w to_miss))
  stepped [] q w to_miss = (refused 10, box [] q (busy w to_miss))
  stepped (e ∷ f) q w to_miss = (quiet, box (e ∷ f) q (busy w (after_miss (is_whole e) (copy e))))
  stepped [] q w to_copy = (refused 10, box [] q (busy w to_copy))
  stepped (e ∷ f) q w to_copy = (quiet, box (e ∷ f) q (busy w (to_release (copy e))))
  stepped [] q w (to_release r) = (refused 10, box [] q (busy w (to_release r)))
  stepped (e ∷ f) q w (to_release r) = (released, box f q (busy w (to_offer r)))
  stepped f q w (to_offer r) = (did (moved r (offer K q r).0), box f (offer K q r).1 (busy w (after_offer (offer K q r).0)))
  stepped f q w to_finish = (quiet, box f q idle)

  abbrev pub call : Box → Call → Event × Box
  call (box f q d) (arrives a) = (did (arrived a (enter K f a).0), box (enter K f a).1 q d)
  call (box f q d) takes = (did (took (taken K q).0), box f (taken K q).1 d)
  call (box f q idle) (start w) = (started w, box f q (busy w (first (due w) (receive w))))
  call (box f q (busy v p)) (start w) = (refused 8, box f q (busy v p))
  call (box f q idle) step = (refused 9, box f q idle)
  call (box f q (busy w p)) step = stepped f q w p

  abbrev pub run : Box → List Call → List Event
  run b [] = []
  run b (c ∷ cs) = (call b c).0 ∷ run (call b c).1 cs

  abbrev pub end : Box → List Call → Box
  end b [] = b
  end b (c ∷ cs) = end (call b c).1 cs
