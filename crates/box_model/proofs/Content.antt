-- What stands at a position's place is what the arrival at that position made: the proof, from one law for any property of records. Assumes nothing.
use Prim.Native.Nat.{ℕ, suc, ◌+◌}
use mathlib.Core.Path.{◌≡◌, ap, ◌∙◌}
use mathlib.Core.Option.{Option, none, some}
use mathlib.Core.List.{List, [], ◌∷◌, ◌++◌}
use mathlib.Core.Bool.{Bool, true, false}
use lib.ListN.{length}
use lib.Dec.{leb, ltb}
use native.Mathlib.Omega.{arith}
use Rattle.box_fifo.specs.Ring.{entry_limit, weight_limit}
use Rattle.box_model.specs.Lists.{Kit, arrived, took, noticed, moved, nothing, weight, entered, offered, offer}
use Rattle.box_model.specs.Calls.{Call, arrives, takes, start, step, Phase, to_notice, to_look, to_miss, to_copy, to_release, to_offer, to_finish, Drain, idle, busy, Box, box, lists, fresh, Event, did, started, quiet, released, refused, moving, first, after_offer, after_miss, stepped, call, run, end}
use Rattle.box_model.specs.Log.{actions}
use Rattle.box_model.specs.Places.{one, removed, lost, tag, number, numbered_end}
use Rattle.box_model.specs.Content.{All, call_at, Made, of-notice, of-whole, of-mark, Content}

module _ {A : Type 0} (P : A → Type 0) where
  all_append : (xs ys : List A) → All P xs → All P ys → All P (xs ++ ys)
  all_append [] ys p q = q
  all_append (x ∷ xs) ys p q = (p.0, all_append xs ys p.1 q)

-- a property of records that BusOff has, and the copy of what an allowed arrival leaves
module _ (K : Kit) (P : K.Record → Type 0) (Ok : K.Frame → Type 0) (notice-ok : P K.bus_off)
    (whole-ok : (a : K.Frame) → Ok a → P (K.copy (K.whole a))) (mark-ok : (a : K.Frame) → Ok a → P (K.copy (K.mark a))) where
  abbrev Entries : List K.Entry → Type 0
  Entries f = All (λ (e : K.Entry). P (K.copy e)) f

  abbrev Holds : Phase K → Type 0
  Holds to_notice = Unit {0}
  Holds to_look = Unit {0}
  Holds to_miss = Unit {0}
  Holds to_copy = Unit {0}
  Holds (to_release r) = P r
  Holds (to_offer r) = P r
  Holds to_finish = Unit {0}

  abbrev Runs : Drain K → Type 0
  Runs idle = Unit {0}
  Runs (busy w p) = Holds p

  abbrev Fine : Box K → Type 0
  Fine (box f q d) = Entries f × All P q × Runs d

  abbrev Told : Event K → Type 0
  Told (did (arrived a o)) = Unit {0}
  Told (did (took x)) = All P (one K x)
  Told (did (noticed x)) = All P (one K x)
  Told (did (moved r x)) = All P (one K x)
  Told (did nothing) = Unit {0}
  Told (started w) = Unit {0}
  Told quiet = Unit {0}
  Told released = Unit {0}
  Told (refused n) = Unit {0}

  abbrev Allowed : Call K → Type 0
  Allowed (arrives a) = Ok a
  Allowed takes = Unit {0}
  Allowed (start w) = Unit {0}
  Allowed step = Unit {0}

  entered-fine : (x y : Bool) (f : List K.Entry) (a : K.Frame) → Ok a → Entries f → Entries (entered K x y f a).1
  entered-fine true y f a k h = h
  entered-fine false true f a k h = all_append (λ (e : K.Entry). P (K.copy e)) f (K.whole a ∷ []) h (whole-ok a k, tt)
  entered-fine false false f a k h = all_append (λ (e : K.Entry). P (K.copy e)) f (K.mark a ∷ []) h (mark-ok a k, tt)

  offered-fine : (x : Bool) (q : List K.Record) (r : K.Record) → All P q → P r → All P (one K (offered K x q r).0) × All P (offered K x q r).1
  offered-fine true q r h p = (tt, all_append P q (r ∷ []) h (p, tt))
  offered-fine false q r h p = ((p, tt), h)

  moving-fine : (b : Bool) → Holds (moving K b)
  moving-fine true = tt
  moving-fine false = tt

  first_fine : (d r : Bool) → Holds (first K d r)
  first_fine true r = tt
  first_fine false r = moving-fine r

  after-fine : (x : Option K.Record) → Holds (after_offer K x)
  after-fine none = tt
  after-fine (some r) = tt

  miss-fine : (b : Bool) (r : K.Record) → P r → Holds (after_miss K b r)
  miss-fine true r p = tt
  miss-fine false r p = p

  step-fine : (p : Phase K) (f : List K.Entry) (q : List K.Record) (w : K.Words) → Entries f → All P q → Holds p → Told (stepped K f q w p).0 × Fine (stepped K f q w p).1
  step-fine to_notice f q w e h r = let o = offered-fine (ltb (length q) K.places) q K.bus_off h notice-ok in (o.0, (e, o.1, moving-fine (K.receive w)))
  step-fine to_look [] q w e h r = (tt, (tt, h, tt))
  step-fine to_look (x ∷ f) q w e h r = (tt, (e, h, tt))
  step-fine to_miss [] q w e h r = (tt, (tt, h, tt))
  step-fine to_miss (x ∷ f) q w e h r = (tt, (e, h, miss-fine (K.is_whole x) (K.copy x) e.0))
  step-fine to_copy [] q w e h r = (tt, (tt, h, tt))
  step-fine to_copy (x ∷ f) q w e h r = (tt, (e, h, e.0))
  step-fine (to_release y) [] q w e h r = (tt, (tt, h, r))
  step-fine (to_release y) (x ∷ f) q w e h r = (tt, (e.1, h, r))
  step-fine (to_offer y) f q w e h r = let o = offered-fine (ltb (length q) K.places) q y h r in (o.0, (e, o.1, after-fine (offer K q y).0))
  step-fine to_finish f q w e h r = (tt, (e, h, tt))

  call-fine : (c : Call K) (b : Box K) → Allowed c → Fine b → Told (call K b c).0 × Fine (call K b c).1
  call-fine (arrives a) (box f q d) k h = (tt, (entered-fine (leb entry_limit (length f)) (leb (weight K f + K.weigh (K.whole a)) weight_limit) f a k h.0, h.1, h.2))
  call-fine takes (box f [] d) k h = (tt, h)
  call-fine takes (box f (r ∷ q) d) k h = ((h.1.0, tt), (h.0, h.1.1, h.2))
  call-fine (start w) (box f q idle) k h = (tt, (h.0, h.1, first_fine (K.due w) (K.receive w)))
  call-fine (start w) (box f q (busy v p)) k h = (tt, h)
  call-fine step (box f q idle) k h = (tt, h)
  call-fine step (box f q (busy w p)) k h = step-fine p f q w h.0 h.1 h.2

  run-fine : (cs : List (Call K)) (b : Box K) → All Allowed cs → Fine b → All Told (run K b cs) × Fine (end K b cs)
  run-fine [] b k h = (tt, h)
  run-fine (c ∷ cs) b k h =
      let x = call-fine c b k.0 h in
      let y = run-fine cs (call K b c).1 k.1 x.1 in
      ((x.0, y.0), y.1)

  removed-fine : (log : List (Event K)) → All Told log → All P (removed K (actions K log))
  removed-fine [] h = tt
  removed-fine (did (arrived a o) ∷ log) h = removed-fine log h.1
  removed-fine (did (took x) ∷ log) h = all_append P (one K x) (removed K (actions K log)) h.0 (removed-fine log h.1)
  removed-fine (did (noticed x) ∷ log) h = removed-fine log h.1
  removed-fine (did (moved r x) ∷ log) h = removed-fine log h.1
  removed-fine (did nothing ∷ log) h = removed-fine log h.1
  removed-fine (started w ∷ log) h = removed-fine log h.1
  removed-fine (quiet ∷ log) h = removed-fine log h.1
  removed-fine (released ∷ log) h = removed-fine log h.1
  removed-fine (refused n ∷ log) h = removed-fine log h.1

  lost-fine : (log : List (Event K)) → All Told log → All P (lost K (actions K log))
  lost-fine [] h = tt
  lost-fine (did (arrived a o) ∷ log) h = lost-fine log h.1
  lost-fine (did (took x) ∷ log) h = lost-fine log h.1
  lost-fine (did (noticed x) ∷ log) h = all_append P (one K x) (lost K (actions K log)) h.0 (lost-fine log h.1)
  lost-fine (did (moved r x) ∷ log) h = all_append P (one K x) (lost K (actions K log)) h.0 (lost-fine log h.1)
  lost-fine (did nothing ∷ log) h = lost-fine log h.1
  lost-fine (started w ∷ log) h = lost-fine log h.1
  lost-fine (quiet ∷ log) h = lost-fine log h.1
  lost-fine (released ∷ log) h = lost-fine log h.1
  lost-fine (refused n ∷ log) h = lost-fine log h.1

  lists-fine : (b : Box K) → Fine b → Entries (lists K b).0 × All P (lists K b).1
  lists-fine (box f q d) h = (h.0, h.1)

-- with positions: the arrivals of the numbered calls are those of the calls
module _ (K : Kit) (all : List (Call K)) where
  abbrev From : ℕ × K.Frame → Type 0
  From x = call_at K all x.0 ≡ some (arrives x.1)

  abbrev AllowedAt : Call (tag K) → Type 0
  AllowedAt c = Allowed (tag K) (Made K all) From of-notice (λ a k. of-whole k) (λ a k. of-mark k) c

  here : (n : ℕ) (c : Call K) (cs : List (Call K)) → ((k : ℕ) → call_at K all (n + k) ≡ call_at K (c ∷ cs) k) → call_at K all n ≡ some c
  here n c cs h = ap (call_at K all) (omega arith) ∙ h 0

  on : (n : ℕ) (c : Call K) (cs : List (Call K)) → ((k : ℕ) → call_at K all (n + k) ≡ call_at K (c ∷ cs) k) → (k : ℕ) → call_at K all (suc n + k) ≡ call_at K cs k
  on n c cs h k = ap (call_at K all) (omega arith) ∙ h (suc k)

  numbered : (cs : List (Call K)) (n : ℕ) → ((k : ℕ) → call_at K all (n + k) ≡ call_at K cs k) → All AllowedAt (number K n cs)
  numbered [] n h = tt
  numbered (arrives a ∷ cs) n h = (here n (arrives a) cs h, numbered cs (suc n) (on n (arrives a) cs h))
  numbered (takes ∷ cs) n h = (tt, numbered cs (suc n) (on n takes cs h))
  numbered (start w ∷ cs) n h = (tt, numbered cs (suc n) (on n (start w) cs h))
  numbered (step ∷ cs) n h = (tt, numbered cs (suc n) (on n step cs h))

pub content : (K : Kit) (cs : List (Call K)) → Content K cs
content K cs =
    let k = numbered K cs cs 0 (λ k. ap (call_at K cs) (omega arith)) in
    let x = run-fine (tag K) (Made K cs) (From K cs) of-notice (λ a k. of-whole k) (λ a k. of-mark k) (number K 0 cs) (fresh (tag K)) k (tt, tt, tt) in
    let l = lists-fine (tag K) (Made K cs) (From K cs) of-notice (λ a k. of-whole k) (λ a k. of-mark k) (numbered_end K cs) x.1 in
    record {
      in_taken = removed-fine (tag K) (Made K cs) (From K cs) of-notice (λ a k. of-whole k) (λ a k. of-mark k) (run (tag K) (fresh (tag K)) (number K 0 cs)) x.0;
      in-lost = lost-fine (tag K) (Made K cs) (From K cs) of-notice (λ a k. of-whole k) (λ a k. of-mark k) (run (tag K) (fresh (tag K)) (number K 0 cs)) x.0;
      in-queue = l.1;
      in-fifo = l.0;
    }
