-- The proofs of the box's demand, over any kit: `whole-actions` (the first half), `kept` (the second, by any measure). Assumes nothing.
use Prim.Native.Nat.{ℕ, zero, suc, ◌+◌}
use mathlib.Core.Path.{◌≡◌, refl, sym, ap, ◌∙◌}
use mathlib.Core.Option.{Option, none, some}
use mathlib.Core.List.{List, [], ◌∷◌, ◌++◌}
use mathlib.Core.Bool.{Bool, true, false}
use lib.ListN.{length}
use lib.Dec.{leb, ltb}
use native.Mathlib.Omega.{arith}
use Rattle.box_fifo.specs.Ring.{entry_limit, weight_limit}
use Rattle.box_model.specs.Lists.{Kit, arrive, take, notice, look, arrived, took, noticed, moved, nothing, Action, Did, State, weight, entered, enter, taken, offered, offer, act, dids, after}
use Rattle.box_model.specs.Calls.{released, arrives, takes, start, step, to_notice, to_look, to_miss, to_copy, to_release, to_offer, to_finish, idle, busy, box, did, started, quiet, refused, Call, Phase, Drain, Box, Event, fresh, lists, drain_of, moving, first, after_offer, after_miss, stepped, call, run, end}
use Rattle.box_model.specs.Log.{Side, fifo, queue, side, move_of, at_release, Class, arrivals, takings, drains, same_class, keep, class, only, actions, starts}
use Rattle.box_model.specs.Demand.{found_nothing, lost-one, one_more, no-moves, moves, no-notice, one-notice, no_more, drain, Moves, Received, Owed, AllOwed, Whole}
use Rattle.box_model.specs.Places.{made, one, recorded, removed, lost, flag, sum, sum_e}

module _ (K : Kit) where
  open K use {Frame, Entry, Record, Words, whole, mark, is_whole, weigh, copy, bus_off, due, receive, places}

  -- LINEAR. Some whole actions lead from one pair of lists to another, and did what the log says, each side in its order
  record Linear (s : State K) (log : List (Event K)) (t : State K) : Type 0 where
    acts : List (Action K)
    ends : after K s acts ≡ t
    fifo-order : side K fifo (dids K s acts) ≡ side K fifo (at_release K log)
    queue-order : side K queue (dids K s acts) ≡ side K queue (actions K log)

  -- The same where a drain holds a record that it has released and not yet offered: first some takes, then the offer of the held record
  -- (the second half of a move), then some whole actions
  abbrev left : ℕ → List Record → List Record
  left zero q = q
  left (suc n) q = left n (taken K q).1

  abbrev got : ℕ → List Record → List (Did K)
  got zero q = []
  got (suc n) q = took (taken K q).0 ∷ got n (taken K q).1

  abbrev takings-of : ℕ → List (Action K) → List (Action K)
  takings-of zero acts = acts
  takings-of (suc n) acts = take ∷ takings-of n acts

  record Holding (r : Record) (s : State K) (log : List (Event K)) (t : State K) : Type 0 where
    n : ℕ
    acts : List (Action K)
    ends : after K (s.0, (offer K (left n s.1) r).1) acts ≡ t
    this : move_of K log ≡ moved r (offer K (left n s.1) r).0 ∷ []
    fifo-order : side K fifo (dids K (s.0, (offer K (left n s.1) r).1) acts) ≡ side K fifo (at_release K log)
    queue-order : got n s.1 ++ (moved r (offer K (left n s.1) r).0 ∷ side K queue (dids K (s.0, (offer K (left n s.1) r).1) acts)) ≡ side K queue (actions K log)

  keep_append : (b : Bool) (d : Did K) (xs ys : List (Did K)) → keep b d xs ++ ys ≡ keep b d (xs ++ ys)
  keep_append true d xs ys = refl
  keep_append false d xs ys = refl

  side-append : (s : Side) (xs ys : List (Did K)) → side K s (xs ++ ys) ≡ side K s xs ++ side K s ys
  side-append s [] ys = refl
  side-append s (d ∷ xs) ys = rw (keep_append, side-append s xs ys)

  -- takes are the queue's
  none-fifo : (n : ℕ) (q : List Record) → side K fifo (got n q) ≡ []
  none-fifo zero q = refl
  none-fifo (suc n) q = none-fifo n (taken K q).1

  all-queue : (n : ℕ) (q : List Record) → side K queue (got n q) ≡ got n q
  all-queue zero q = refl
  all-queue (suc n) q = ap (λ l. took (taken K q).0 ∷ l) (all-queue n (taken K q).1)

  after-takings : (n : ℕ) (f : List Entry) (q : List Record) (acts : List (Action K)) → after K (f, q) (takings-of n acts) ≡ after K (f, left n q) acts
  after-takings zero f q acts = refl
  after-takings (suc n) f q acts = after-takings n f (taken K q).1 acts

  dids-takings : (n : ℕ) (f : List Entry) (q : List Record) (acts : List (Action K)) → dids K (f, q) (takings-of n acts) ≡ got n q ++ dids K (f, left n q) acts
  dids-takings zero f q acts = refl
  dids-takings (suc n) f q acts = ap (λ l. took (taken K q).0 ∷ l) (dids-takings n f (taken K q).1 acts)

  module _ (f : List Entry) (q : List Record) (log : List (Event K)) (t : State K) where
    act-first : (a : Action K) → at_release K (did (act K (f, q) a).0 ∷ log) ≡ (act K (f, q) a).0 ∷ at_release K log
        → Linear (act K (f, q) a).1 log t → Linear (f, q) (did (act K (f, q) a).0 ∷ log) t
    act-first a h l = record { acts = a ∷ l.acts; ends = l.ends; fifo-order = rw (h, l.fifo-order); queue-order = rw l.queue-order }

    -- while a record is held: an arrival goes behind the move, a take before it
    arrive-later : (a : Frame) (r : Record) → Holding r ((enter K f a).1, q) log t → Holding r (f, q) (did (arrived a (enter K f a).0) ∷ log) t
    arrive-later a r l = record { n = l.n; acts = arrive a ∷ l.acts; ends = l.ends; this = l.this; fifo-order = rw l.fifo-order; queue-order = l.queue-order }

    take-first : (r : Record) → Holding r (f, (taken K q).1) log t → Holding r (f, q) (did (took (taken K q).0) ∷ log) t
    take-first r l = record { n = suc l.n; acts = l.acts; ends = l.ends; this = l.this; fifo-order = l.fifo-order; queue-order = rw l.queue-order }

    offered-now : (r : Record) → Linear (f, (offer K q r).1) log t → Holding r (f, q) (did (moved r (offer K q r).0) ∷ log) t
    offered-now r l = record { n = zero; acts = l.acts; ends = l.ends; this = refl; fifo-order = l.fifo-order; queue-order = rw l.queue-order }

    released-now : (e : Entry) → Holding (copy e) (f, q) log t → Linear (e ∷ f, q) (released ∷ log) t
    released-now e l = record {
      acts = takings-of l.n (look ∷ l.acts);
      ends = after-takings l.n (e ∷ f) q (look ∷ l.acts) ∙ l.ends;
      fifo-order = rw (dids-takings, side-append, none-fifo, l.this, l.fifo-order);
      queue-order = rw (dids-takings, side-append, all-queue) l.queue-order;
    }

  -- the record that is released and not yet offered; the record that is read and not yet released, which is the front's
  abbrev held : Drain K → Option Record
  held idle = none
  held (busy w to_notice) = none
  held (busy w to_look) = none
  held (busy w to_miss) = none
  held (busy w to_copy) = none
  held (busy w (to_release r)) = none
  held (busy w (to_offer r)) = some r
  held (busy w to_finish) = none

  -- what the next step finds at the front: anything; an entry; the entry of which it holds the copy
  data Need : Type 0 where
    no-need an-entry : Need
    its-copy : Record → Need

  abbrev needs : Drain K → Need
  needs idle = no-need
  needs (busy w to_notice) = no-need
  needs (busy w to_look) = no-need
  needs (busy w to_miss) = an-entry
  needs (busy w to_copy) = an-entry
  needs (busy w (to_release r)) = its-copy r
  needs (busy w (to_offer r)) = no-need
  needs (busy w to_finish) = no-need

  abbrev front : List Entry → Option Record
  front [] = none
  front (e ∷ f) = some (copy e)

  abbrev Met : Need → List Entry → Type 0
  Met no-need f = Unit {0}
  Met an-entry f = (r : Record) × (front f ≡ some r)
  Met (its-copy r) f = front f ≡ some r

  abbrev Sound : Box K → Type 0
  Sound (box f q d) = Met (needs d) f

  abbrev Claims : Option Record → State K → List (Event K) → State K → Type 0
  Claims none s log t = Linear s log t
  Claims (some r) s log t = Holding r s log t

  abbrev Claim : Box K → List (Event K) → State K → Type 0
  Claim (box f q d) log t = Claims (held d) (f, q) log t

  front-entered : (x y : Bool) (f : List Entry) (a : Frame) (r : Record) → front f ≡ some r → front (entered K x y f a).1 ≡ some r
  front-entered true y f a r h = h
  front-entered false true (e ∷ f) a r h = h
  front-entered false false (e ∷ f) a r h = h
  front-entered false true [] a r h = let z : ◌≡◌ {A = ℕ} 0 1 = cc in absurd (omega arith)
  front-entered false false [] a r h = let z : ◌≡◌ {A = ℕ} 0 1 = cc in absurd (omega arith)

  front-enter : (f : List Entry) (a : Frame) (r : Record) → front f ≡ some r → front (enter K f a).1 ≡ some r
  front-enter f a r h = front-entered (leb entry_limit (length f)) (leb (weight K f + weigh (whole a)) weight_limit) f a r h

  met-enter : (o : Need) (f : List Entry) (a : Frame) → Met o f → Met o (enter K f a).1
  met-enter no-need f a h = tt
  met-enter an-entry f a h = (h.0, front-enter f a h.0 h.1)
  met-enter (its-copy r) f a h = front-enter f a r h

  -- the phases that follow a start, a notice, an offer and a miss read
  record Plain (p : Phase K) : Type 0 where
    unread : (w : Words) → needs (busy w p) ≡ no-need
    unheld : (w : Words) → held (busy w p) ≡ none

  plain-moving : (b : Bool) → Plain (moving K b)
  plain-moving true = record { unread = λ w. refl; unheld = λ w. refl }
  plain-moving false = record { unread = λ w. refl; unheld = λ w. refl }

  plain-first : (d r : Bool) → Plain (first K d r)
  plain-first true r = record { unread = λ w. refl; unheld = λ w. refl }
  plain-first false r = plain-moving r

  plain-after_offer : (x : Option Record) → Plain (after_offer K x)
  plain-after_offer none = record { unread = λ w. refl; unheld = λ w. refl }
  plain-after_offer (some r) = record { unread = λ w. refl; unheld = λ w. refl }

  unheld-after_miss : (b : Bool) (r : Record) (w : Words) → held (busy w (after_miss K b r)) ≡ none
  unheld-after_miss true r w = refl
  unheld-after_miss false r w = refl

  met-after_miss : (b : Bool) (w : Words) (e : Entry) (f : List Entry) → Met (needs (busy w (after_miss K b (copy e)))) (e ∷ f)
  met-after_miss true w e f = (copy e, refl)
  met-after_miss false w e f = refl

  sound-step : (p : Phase K) (f : List Entry) (q : List Record) (w : Words) → Sound (box f q (busy w p)) → Sound (stepped K f q w p).1
  sound-step to_notice f q w ok = rw ((plain-moving (receive w)).unread w) tt
  sound-step to_look [] q w ok = tt
  sound-step to_look (e ∷ f) q w ok = (copy e, refl)
  sound-step to_miss [] q w ok = ok
  sound-step to_miss (e ∷ f) q w ok = met-after_miss (is_whole e) w e f
  sound-step to_copy [] q w ok = ok
  sound-step to_copy (e ∷ f) q w ok = refl
  sound-step (to_release r) [] q w ok = ok
  sound-step (to_release r) (e ∷ f) q w ok = tt
  sound-step (to_offer r) f q w ok = rw ((plain-after_offer (offer K q r).0).unread w) tt
  sound-step to_finish f q w ok = tt

  sound-next : (c : Call K) (b : Box K) → Sound b → Sound (call K b c).1
  sound-next (arrives a) (box f q d) ok = met-enter (needs d) f a ok
  sound-next takes (box f q d) ok = ok
  sound-next (start w) (box f q idle) ok = rw ((plain-first (due w) (receive w)).unread w) tt
  sound-next (start w) (box f q (busy v p)) ok = ok
  sound-next step (box f q idle) ok = ok
  sound-next step (box f q (busy w p)) ok = sound-step p f q w ok

  module _ (log : List (Event K)) (t : State K) where
    -- a step, or a refused call, that changes no list
    skip : (s : State K) (e : Event K) → at_release K (e ∷ log) ≡ at_release K log → actions K (e ∷ log) ≡ actions K log → Linear s log t → Linear s (e ∷ log) t
    skip s e h k l = record { acts = l.acts; ends = l.ends; fifo-order = rw h l.fifo-order; queue-order = rw k l.queue-order }

    next-arrive : (o : Option Record) (f : List Entry) (q : List Record) (a : Frame) → Claims o ((enter K f a).1, q) log t → Claims o (f, q) (did (arrived a (enter K f a).0) ∷ log) t
    next-arrive none f q a l = act-first f q log t (arrive a) refl l
    next-arrive (some r) f q a l = arrive-later f q log t a r l

    next-take : (o : Option Record) (f : List Entry) (q : List Record) → Claims o (f, (taken K q).1) log t → Claims o (f, q) (did (took (taken K q).0) ∷ log) t
    next-take none f q l = act-first f q log t take refl l
    next-take (some r) f q l = take-first f q log t r l

    next-refused : (n : ℕ) (o : Option Record) (s : State K) → Claims o s log t → Claims o s (refused n ∷ log) t
    next-refused n none s l = skip s (refused n) refl refl l
    next-refused n (some r) s l = record { n = l.n; acts = l.acts; ends = l.ends; this = l.this; fifo-order = l.fifo-order; queue-order = l.queue-order }

    next-step : (p : Phase K) (f : List Entry) (q : List Record) (w : Words) → Sound (box f q (busy w p))
        → Claim (stepped K f q w p).1 log t → Claim (box f q (busy w p)) ((stepped K f q w p).0 ∷ log) t
    next-step to_notice f q w ok l = act-first f q log t notice refl (rw ((plain-moving (receive w)).unheld w) at l)
    next-step to_look [] q w ok l = act-first [] q log t look refl l
    next-step to_look (e ∷ f) q w ok l = skip _ quiet refl refl l
    next-step to_miss [] q w ok l = skip _ (refused 10) refl refl l
    next-step to_miss (e ∷ f) q w ok l = skip _ quiet refl refl (rw (unheld-after_miss (is_whole e) (copy e) w) at l)
    next-step to_copy [] q w ok l = skip _ (refused 10) refl refl l
    next-step to_copy (e ∷ f) q w ok l = skip _ quiet refl refl l
    next-step (to_release r) [] q w ok l = skip _ (refused 10) refl refl l
    next-step (to_release r) (e ∷ f) q w ok l = let z : copy e ≡ r = cc in released-now f q log t e (rw z l)
    next-step (to_offer r) f q w ok l = offered-now f q log t r (rw ((plain-after_offer (offer K q r).0).unheld w) at l)
    next-step to_finish f q w ok l = skip _ quiet refl refl l

    next : (c : Call K) (b : Box K) → Sound b → Claim (call K b c).1 log t → Claim b ((call K b c).0 ∷ log) t
    next (arrives a) (box f q d) ok l = next-arrive (held d) f q a l
    next takes (box f q d) ok l = next-take (held d) f q l
    next (start w) (box f q idle) ok l = skip _ (started w) refl refl (rw ((plain-first (due w) (receive w)).unheld w) at l)
    next (start w) (box f q (busy v p)) ok l = next-refused 8 (held (busy v p)) (f, q) l
    next step (box f q idle) ok l = skip _ (refused 9) refl refl l
    next step (box f q (busy w p)) ok l = next-step p f q w ok l

  linear-nil : (b : Box K) → drain_of K b ≡ idle → Claim b [] (lists K b)
  linear-nil (box f q d) h = rw h (record { acts = []; ends = refl; fifo-order = refl; queue-order = refl })

  linear-from : (cs : List (Call K)) (b : Box K) → Sound b → drain_of K (end K b cs) ≡ idle → Claim b (run K b cs) (lists K (end K b cs))
  linear-from [] b ok h = linear-nil b h
  linear-from (c ∷ cs) b ok h = next (run K (call K b c).1 cs) (lists K (end K b (c ∷ cs))) c b ok (linear-from cs (call K b c).1 (sound-next c b ok) h)

  -- WHAT THE DRAINS DID IS WHAT THEY OWE. What the drain that runs has yet to do
  abbrev Rest : Drain K → List (Did K) → Type 0
  Rest idle ds = ds ≡ []
  Rest (busy w to_notice) ds = Owed K true (receive w) ds
  Rest (busy w to_look) ds = Moves K ds
  Rest (busy w to_miss) ds = Moves K ds
  Rest (busy w to_copy) ds = Moves K ds
  Rest (busy w (to_release r)) ds = Moves K ds
  Rest (busy w (to_offer r)) ds = Moves K ds
  Rest (busy w to_finish) ds = ds ≡ []

  record Owing (d : Drain K) (log : List (Event K)) : Type 0 where
    now : List (Did K)
    later : List (Did K)
    joined : only K drains (actions K log) ≡ now ++ later
    this : Rest d now
    others : AllOwed K (starts K log) later

  rest-moving : (w : Words) (r : Bool) (ds : List (Did K)) → Rest (busy w (moving K r)) ds → Received K r ds
  rest-moving w true ds h = moves h
  rest-moving w false ds h = rw h no-moves

  rest-first : (w : Words) (d : Bool) (ds : List (Did K)) → Rest (busy w (first K d (receive w))) ds → Owed K d (receive w) ds
  rest-first w true ds h = h
  rest-first w false ds h = no-notice (rest-moving w (receive w) ds h)

  rest-after_offer : (w : Words) (r : Record) (x : Option Record) (ds : List (Did K)) → Rest (busy w (after_offer K x)) ds → Moves K (moved r x ∷ ds)
  rest-after_offer w r none ds h = one_more h
  rest-after_offer w r (some s) ds h = rw h lost-one

  rest-after_miss : (w : Words) (b : Bool) (r : Record) (ds : List (Did K)) → Rest (busy w (after_miss K b r)) ds → Moves K ds
  rest-after_miss w true r ds h = h
  rest-after_miss w false r ds h = h

  module _ (log : List (Event K)) where
    -- an event that is no drain's, with what is left of the drain
    same-owing : (d d' : Drain K) (e : Event K) → only K drains (actions K (e ∷ log)) ≡ only K drains (actions K log) → starts K (e ∷ log) ≡ starts K log
        → ((ds : List (Did K)) → Rest d' ds → Rest d ds) → Owing d' log → Owing d (e ∷ log)
    same-owing d d' e hd hs k o = record { now = o.now; later = o.later; joined = hd ∙ o.joined; this = k o.now o.this; others = rw hs o.others }

    drain-owing : (d d' : Drain K) (x : Did K) → same_class drains (class K x) ≡ true → ((ds : List (Did K)) → Rest d' ds → Rest d (x ∷ ds)) → Owing d' log → Owing d (did x ∷ log)
    drain-owing d d' x hx k o = record { now = x ∷ o.now; later = o.later; joined = rw (hx, o.joined); this = k o.now o.this; others = o.others }

    owing-step : (p : Phase K) (f : List Entry) (q : List Record) (w : Words) → Owing (drain_of K (stepped K f q w p).1) log → Owing (busy w p) ((stepped K f q w p).0 ∷ log)
    owing-step to_notice f q w o = drain-owing (busy w to_notice) (busy w (moving K (receive w))) _ refl (λ ds h. one-notice (rest-moving w (receive w) ds h)) o
    owing-step to_look [] q w o = drain-owing (busy w to_look) (busy w to_finish) nothing refl (λ ds h. rw h found_nothing) o
    owing-step to_look (e ∷ f) q w o = same-owing _ (busy w to_miss) quiet refl refl (λ ds h. h) o
    owing-step to_miss [] q w o = same-owing _ (busy w to_miss) (refused 10) refl refl (λ ds h. h) o
    owing-step to_miss (e ∷ f) q w o = same-owing _ (busy w (after_miss K (is_whole e) (copy e))) quiet refl refl (λ ds h. rest-after_miss w (is_whole e) (copy e) ds h) o
    owing-step to_copy [] q w o = same-owing _ (busy w to_copy) (refused 10) refl refl (λ ds h. h) o
    owing-step to_copy (e ∷ f) q w o = same-owing _ (busy w (to_release (copy e))) quiet refl refl (λ ds h. h) o
    owing-step (to_release r) [] q w o = same-owing _ (busy w (to_release r)) (refused 10) refl refl (λ ds h. h) o
    owing-step (to_release r) (e ∷ f) q w o = same-owing _ (busy w (to_offer r)) released refl refl (λ ds h. h) o
    owing-step (to_offer r) f q w o = drain-owing (busy w (to_offer r)) (busy w (after_offer K (offer K q r).0)) _ refl (λ ds h. rest-after_offer w r (offer K q r).0 ds h) o
    owing-step to_finish f q w o = same-owing _ idle quiet refl refl (λ ds h. h) o

    owing-start : (w : Words) → Owing (busy w (first K (due w) (receive w))) log → Owing idle (started w ∷ log)
    owing-start w o = record { now = []; later = o.now ++ o.later; joined = o.joined; this = refl; others = drain (rest-first w (due w) o.now o.this) o.others }

    owing-next : (c : Call K) (b : Box K) → Owing (drain_of K (call K b c).1) log → Owing (drain_of K b) ((call K b c).0 ∷ log)
    owing-next (arrives a) (box f q d) o = same-owing d d _ refl refl (λ ds h. h) o
    owing-next takes (box f q d) o = same-owing d d _ refl refl (λ ds h. h) o
    owing-next (start w) (box f q idle) o = owing-start w o
    owing-next (start w) (box f q (busy v p)) o = same-owing (busy v p) (busy v p) (refused 8) refl refl (λ ds h. h) o
    owing-next step (box f q idle) o = same-owing idle idle (refused 9) refl refl (λ ds h. h) o
    owing-next step (box f q (busy w p)) o = owing-step p f q w o

  owing-from : (cs : List (Call K)) (b : Box K) → drain_of K (end K b cs) ≡ idle → Owing (drain_of K b) (run K b cs)
  owing-from [] b h = rw h (record { now = []; later = []; joined = refl; this = refl; others = no_more })
  owing-from (c ∷ cs) b h = owing-next (run K (call K b c).1 cs) c b (owing-from cs (call K b c).1 h)

  all-owed : (cs : List (Call K)) → drain_of K (end K (fresh K) cs) ≡ idle → AllOwed K (starts K (run K (fresh K) cs)) (only K drains (actions K (run K (fresh K) cs)))
  all-owed cs h = let o = owing-from cs (fresh K) h in rw (o.joined, o.this) o.others

  -- a class in its order, from the side that sees it
  arrivals-fifo : (ds : List (Did K)) → only K arrivals (side K fifo ds) ≡ only K arrivals ds
  arrivals-fifo [] = refl
  arrivals-fifo (arrived a o ∷ ds) = rw (arrivals-fifo ds)
  arrivals-fifo (took x ∷ ds) = arrivals-fifo ds
  arrivals-fifo (noticed x ∷ ds) = arrivals-fifo ds
  arrivals-fifo (moved r x ∷ ds) = arrivals-fifo ds
  arrivals-fifo (nothing ∷ ds) = arrivals-fifo ds

  takings-queue : (ds : List (Did K)) → only K takings (side K queue ds) ≡ only K takings ds
  takings-queue [] = refl
  takings-queue (arrived a o ∷ ds) = takings-queue ds
  takings-queue (took x ∷ ds) = rw (takings-queue ds)
  takings-queue (noticed x ∷ ds) = takings-queue ds
  takings-queue (moved r x ∷ ds) = takings-queue ds
  takings-queue (nothing ∷ ds) = takings-queue ds

  drains-queue : (ds : List (Did K)) → only K drains (side K queue ds) ≡ only K drains ds
  drains-queue [] = refl
  drains-queue (arrived a o ∷ ds) = drains-queue ds
  drains-queue (took x ∷ ds) = drains-queue ds
  drains-queue (noticed x ∷ ds) = rw (drains-queue ds)
  drains-queue (moved r x ∷ ds) = rw (drains-queue ds)
  drains-queue (nothing ∷ ds) = rw (drains-queue ds)

  -- where a move stands is nothing to arrivals
  move-no-arrival : (log : List (Event K)) (ds : List (Did K)) → only K arrivals (move_of K log ++ ds) ≡ only K arrivals ds
  move-no-arrival [] ds = refl
  move-no-arrival (did (arrived a o) ∷ log) ds = move-no-arrival log ds
  move-no-arrival (did (took x) ∷ log) ds = move-no-arrival log ds
  move-no-arrival (did (noticed x) ∷ log) ds = move-no-arrival log ds
  move-no-arrival (did (moved r x) ∷ log) ds = refl
  move-no-arrival (did nothing ∷ log) ds = move-no-arrival log ds
  move-no-arrival (started w ∷ log) ds = move-no-arrival log ds
  move-no-arrival (quiet ∷ log) ds = move-no-arrival log ds
  move-no-arrival (released ∷ log) ds = move-no-arrival log ds
  move-no-arrival (refused n ∷ log) ds = move-no-arrival log ds

  arrivals-both : (log : List (Event K)) → only K arrivals (at_release K log) ≡ only K arrivals (actions K log)
  arrivals-both [] = refl
  arrivals-both (did (arrived a o) ∷ log) = rw (arrivals-both log)
  arrivals-both (did (took x) ∷ log) = arrivals-both log
  arrivals-both (did (noticed x) ∷ log) = arrivals-both log
  arrivals-both (did (moved r x) ∷ log) = arrivals-both log
  arrivals-both (did nothing ∷ log) = arrivals-both log
  arrivals-both (started w ∷ log) = arrivals-both log
  arrivals-both (quiet ∷ log) = arrivals-both log
  arrivals-both (released ∷ log) = move-no-arrival log (at_release K log) ∙ arrivals-both log
  arrivals-both (refused n ∷ log) = arrivals-both log

  each-class : (s t : State K) (log : List (Event K)) (l : Linear s log t) (c : Class) → only K c (dids K s l.acts) ≡ only K c (actions K log)
  each-class s t log l arrivals = sym (arrivals-fifo (dids K s l.acts)) ∙ ap (only K arrivals) l.fifo-order ∙ arrivals-fifo (at_release K log) ∙ arrivals-both log
  each-class s t log l takings = sym (takings-queue (dids K s l.acts)) ∙ ap (only K takings) l.queue-order ∙ takings-queue (actions K log)
  each-class s t log l drains = sym (drains-queue (dids K s l.acts)) ∙ ap (only K drains) l.queue-order ∙ drains-queue (actions K log)

  pub whole-actions : (cs : List (Call K)) → drain_of K (end K (fresh K) cs) ≡ idle → Whole K (run K (fresh K) cs) (lists K (end K (fresh K) cs))
  whole-actions cs h =
      let l = linear-from cs (fresh K) tt h in
      let same = each-class ([], []) (lists K (end K (fresh K) cs)) (run K (fresh K) cs) l in
      record { acts = l.acts; ends = l.ends; same = same; owed = rw (same drains) (all-owed cs h); fifo-order = l.fifo-order; queue-order = l.queue-order }

  -- any measure of records
  module _ (φ : Record → ℕ) where
    abbrev total : Box K → ℕ
    total (box f q d) = sum_e K φ f + sum K φ q + sum K φ (one K (held d))

    abbrev Kept : Box K → List (Did K) → ℕ → Type 0
    Kept b ds n = total b + sum_e K φ (recorded K ds) ≡ sum K φ (removed K ds) + sum K φ (lost K ds) + n

    sum-append : (p q : List Record) → sum K φ (p ++ q) ≡ sum K φ p + sum K φ q
    sum-append [] q = omega arith
    sum-append (r ∷ p) q = omega (arith, sum-append p q)

    pub sum_e-append : (f g : List Entry) → sum_e K φ (f ++ g) ≡ sum_e K φ f + sum_e K φ g
    sum_e-append [] g = omega arith
    sum_e-append (e ∷ f) g = omega (arith, sum_e-append f g)

    sum-entered : (x y : Bool) (f : List Entry) (a : Frame) → sum_e K φ (entered K x y f a).1 ≡ sum_e K φ f + sum_e K φ (made K a (entered K x y f a).0)
    sum-entered true y f a = omega arith
    sum-entered false true f a = sum_e-append f (whole a ∷ [])
    sum-entered false false f a = sum_e-append f (mark a ∷ [])

    sum-enter : (f : List Entry) (a : Frame) → sum_e K φ (enter K f a).1 ≡ sum_e K φ f + sum_e K φ (made K a (enter K f a).0)
    sum-enter f a = sum-entered (leb entry_limit (length f)) (leb (weight K f + weigh (whole a)) weight_limit) f a

    sum-taken : (q : List Record) → sum K φ q ≡ sum K φ (one K (taken K q).0) + sum K φ (taken K q).1
    sum-taken [] = refl
    sum-taken (r ∷ q) = omega arith

    sum-offered : (x : Bool) (q : List Record) (r : Record) → sum K φ (offered K x q r).1 + sum K φ (one K (offered K x q r).0) ≡ sum K φ q + φ r
    sum-offered true q r = omega (arith, sum-append q (r ∷ []))
    sum-offered false q r = omega arith

    sum-offer : (q : List Record) (r : Record) → sum K φ (offer K q r).1 + sum K φ (one K (offer K q r).0) ≡ sum K φ q + φ r
    sum-offer q r = sum-offered (ltb (length q) places) q r

    module _ (zero-bus_off : φ bus_off ≡ 0) (log : List (Event K)) (n : ℕ) where
      kept_step : (p : Phase K) (f : List Entry) (q : List Record) (w : Words) → Sound (box f q (busy w p))
          → Kept (stepped K f q w p).1 (actions K log) n → Kept (box f q (busy w p)) (actions K ((stepped K f q w p).0 ∷ log)) n
      kept_step to_notice f q w ok h = let h' = rw ((plain-moving (receive w)).unheld w) at h in omega (arith, sum-offer q bus_off, sum-append (one K (offer K q bus_off).0) (lost K (actions K log)))
      kept_step to_look [] q w ok h = h
      kept_step to_look (e ∷ f) q w ok h = h
      kept_step to_miss [] q w ok h = h
      kept_step to_miss (e ∷ f) q w ok h = rw (unheld-after_miss (is_whole e) (copy e) w) at h
      kept_step to_copy [] q w ok h = h
      kept_step to_copy (e ∷ f) q w ok h = h
      kept_step (to_release r) [] q w ok h = h
      kept_step (to_release r) (e ∷ f) q w ok h = let z : copy e ≡ r = cc in omega (arith, ap φ z)
      kept_step (to_offer r) f q w ok h = let h' = rw ((plain-after_offer (offer K q r).0).unheld w) at h in omega (arith, sum-offer q r, sum-append (one K (offer K q r).0) (lost K (actions K log)))
      kept_step to_finish f q w ok h = h

      kept_next : (c : Call K) (b : Box K) → Sound b → Kept (call K b c).1 (actions K log) n → Kept b (actions K ((call K b c).0 ∷ log)) n
      kept_next (arrives a) (box f q d) ok h = omega (arith, sum-enter f a, sum_e-append (made K a (enter K f a).0) (recorded K (actions K log)))
      kept_next takes (box f q d) ok h = omega (arith, sum-taken q, sum-append (one K (taken K q).0) (removed K (actions K log)))
      kept_next (start w) (box f q idle) ok h = rw ((plain-first (due w) (receive w)).unheld w) at h
      kept_next (start w) (box f q (busy v p)) ok h = h
      kept_next step (box f q idle) ok h = h
      kept_next step (box f q (busy w p)) ok h = kept_step p f q w ok h

    kept_from : φ bus_off ≡ 0 → (cs : List (Call K)) (b : Box K) → Sound b → Kept b (actions K (run K b cs)) (total (end K b cs))
    kept_from z [] b ok = omega arith
    kept_from z (c ∷ cs) b ok = kept_next z (run K (call K b c).1 cs) (total (end K b (c ∷ cs))) c b ok (kept_from z cs (call K b c).1 (sound-next c b ok))

    total-idle : (b : Box K) → drain_of K b ≡ idle → total b ≡ sum_e K φ (lists K b).0 + sum K φ (lists K b).1
    total-idle (box f q d) h = let z : sum K φ (one K (held d)) ≡ 0 = rw h in omega arith

    pub kept : φ bus_off ≡ 0 → (cs : List (Call K)) → drain_of K (end K (fresh K) cs) ≡ idle
        → let ds : List (Did K) = actions K (run K (fresh K) cs) in sum_e K φ (recorded K ds) ≡ sum K φ (removed K ds) + sum K φ (lost K ds) + sum K φ (lists K (end K (fresh K) cs)).1 + sum_e K φ (lists K (end K (fresh K) cs)).0
    kept z cs h = omega (arith, kept_from z cs (fresh K) tt, total-idle (end K (fresh K) cs) h)

  -- a step records nothing
  pub record Still (e : Event K) : Type 0 where
    pub none-recorded : (log : List (Event K)) → recorded K (actions K (e ∷ log)) ≡ recorded K (actions K log)
    pub no_flag : flag K e ≡ 0

  still-step : (p : Phase K) (f : List Entry) (q : List Record) (w : Words) → Still (stepped K f q w p).0
  still-step to_notice f q w = record { none-recorded = λ log. refl; no_flag = refl }
  still-step to_look [] q w = record { none-recorded = λ log. refl; no_flag = refl }
  still-step to_look (e ∷ f) q w = record { none-recorded = λ log. refl; no_flag = refl }
  still-step to_miss [] q w = record { none-recorded = λ log. refl; no_flag = refl }
  still-step to_miss (e ∷ f) q w = record { none-recorded = λ log. refl; no_flag = refl }
  still-step to_copy [] q w = record { none-recorded = λ log. refl; no_flag = refl }
  still-step to_copy (e ∷ f) q w = record { none-recorded = λ log. refl; no_flag = refl }
  still-step (to_release r) [] q w = record { none-recorded = λ log. refl; no_flag = refl }
  still-step (to_release r) (e ∷ f) q w = record { none-recorded = λ log. refl; no_flag = refl }
  still-step (to_offer r) f q w = record { none-recorded = λ log. refl; no_flag = refl }
  still-step to_finish f q w = record { none-recorded = λ log. refl; no_flag = refl }

  pub still-start : (w : Words) (b : Box K) → Still (call K b (start w)).0
  still-start w (box f q idle) = record { none-recorded = λ log. refl; no_flag = refl }
  still-start w (box f q (busy v p)) = record { none-recorded = λ log. refl; no_flag = refl }

  pub still-call : (b : Box K) → Still (call K b step).0
  still-call (box f q idle) = record { none-recorded = λ log. refl; no_flag = refl }
  still-call (box f q (busy w p)) = still-step p f q w

  pub still-take : (b : Box K) → Still (call K b takes).0
  still-take (box f q d) = record { none-recorded = λ log. refl; no_flag = refl }
