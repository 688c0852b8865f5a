-- Every recorded arrival ends in exactly one place: the proof. Assumes nothing.
use Prim.Native.Nat.{ℕ, zero, suc, ◌+◌, ◌<◌}
use mathlib.Core.Path.{◌≡◌, refl, sym, ap, ◌∙◌}
use mathlib.Core.Logic.{◌≢◌}
use mathlib.Core.Option.{Option, none, some}
use mathlib.Core.List.{List, [], ◌∷◌, map}
use mathlib.Core.Bool.{Bool, true, false}
use lib.ListN.{length, length-map, get_or}
use lib.Dec.{leb, ltb, eqb, eqb→eq, eqb_refl, T}
use native.Mathlib.Omega.{arith}
use Rattle.std.proofs.lemmas.List.{map-append}
use Rattle.laws.specs.Row.{bit}
use Rattle.box_fifo.specs.Ring.{entry_limit, weight_limit, Outcome, not_recorded, marked, stored}
use Rattle.box_model.specs.Lists.{Kit, weight, entered, enter, offered, offer, arrived, took, noticed, moved, nothing}
use Rattle.box_model.specs.Calls.{Call, arrives, takes, start, step, Phase, to_notice, to_look, to_miss, to_copy, to_release, to_offer, to_finish, Drain, idle, busy, Box, box, drain_of, fresh, Event, did, started, quiet, released, refused, moving, first, after_offer, after_miss, stepped, call, run, end}
use Rattle.box_model.specs.Log.{actions}
use Rattle.box_model.specs.Places.{made, recorded, sum_e, counted, flag, tag, number, bare_option, bare_event, bare_phase, bare_drain, bare_entries, bare_records, bare_box, bare_call, count_at, numbered_end, Placed}
use Rattle.box_model.proofs.Demand.{whole-actions, sum_e-append, kept, Still, still-start, still-call, still-take}

module _ (K : Kit) where
  abbrev bare_step : Event (tag K) × Box (tag K) → Event K × Box K
  bare_step x = (bare_event K x.0, bare_box K x.1)

  weight-erase : (f : List (ℕ × K.Entry)) → weight K (bare_entries K f) ≡ weight (tag K) f
  weight-erase [] = refl
  weight-erase (e ∷ f) = rw (weight-erase f)

  entered-erase : (x y : Bool) (f : List (ℕ × K.Entry)) (a : ℕ × K.Frame)
      → entered K x y (bare_entries K f) a.1 ≡ ((entered (tag K) x y f a).0, bare_entries K (entered (tag K) x y f a).1)
  entered-erase true y f a = refl
  entered-erase false true f a = rw map-append
  entered-erase false false f a = rw map-append

  enter-erase : (f : List (ℕ × K.Entry)) (a : ℕ × K.Frame) → enter K (bare_entries K f) a.1 ≡ ((enter (tag K) f a).0, bare_entries K (enter (tag K) f a).1)
  enter-erase f a = rw (length-map, weight-erase) (entered-erase (leb entry_limit (length f)) (leb (weight (tag K) f + K.weigh (K.whole a.1)) weight_limit) f a)

  offered-erase : (x : Bool) (q : List (Option ℕ × K.Record)) (r : Option ℕ × K.Record)
      → offered K x (bare_records K q) r.1 ≡ (bare_option K (offered (tag K) x q r).0, bare_records K (offered (tag K) x q r).1)
  offered-erase true q r = rw map-append
  offered-erase false q r = refl

  offer-erase : (q : List (Option ℕ × K.Record)) (r : Option ℕ × K.Record) → offer K (bare_records K q) r.1 ≡ (bare_option K (offer (tag K) q r).0, bare_records K (offer (tag K) q r).1)
  offer-erase q r = rw length-map (offered-erase (ltb (length q) K.places) q r)

  moving-erase : (b : Bool) → moving K b ≡ bare_phase K (moving (tag K) b)
  moving-erase true = refl
  moving-erase false = refl

  first-erase : (d r : Bool) → first K d r ≡ bare_phase K (first (tag K) d r)
  first-erase true r = refl
  first-erase false r = moving-erase r

  after_offer-erase : (x : Option (Option ℕ × K.Record)) → after_offer K (bare_option K x) ≡ bare_phase K (after_offer (tag K) x)
  after_offer-erase none = refl
  after_offer-erase (some r) = refl

  after_miss-erase : (b : Bool) (r : Option ℕ × K.Record) → after_miss K b r.1 ≡ bare_phase K (after_miss (tag K) b r)
  after_miss-erase true r = refl
  after_miss-erase false r = refl

  step-erase : (p : Phase (tag K)) (f : List (ℕ × K.Entry)) (q : List (Option ℕ × K.Record)) (w : K.Words)
      → stepped K (bare_entries K f) (bare_records K q) w (bare_phase K p) ≡ bare_step (stepped (tag K) f q w p)
  step-erase to_notice f q w = rw (offer-erase q (none, K.bus_off), moving-erase)
  step-erase to_look [] q w = refl
  step-erase to_look (e ∷ f) q w = refl
  step-erase to_miss [] q w = refl
  step-erase to_miss (e ∷ f) q w = rw (after_miss-erase (K.is_whole e.1) (some e.0, K.copy e.1))
  step-erase to_copy [] q w = refl
  step-erase to_copy (e ∷ f) q w = refl
  step-erase (to_release r) [] q w = refl
  step-erase (to_release r) (e ∷ f) q w = refl
  step-erase (to_offer r) f q w = rw (offer-erase q r, after_offer-erase)
  step-erase to_finish f q w = refl

  call-erase : (b : Box (tag K)) (c : Call (tag K)) → call K (bare_box K b) (bare_call K c) ≡ bare_step (call (tag K) b c)
  call-erase (box f q d) (arrives a) = rw (enter-erase f a)
  call-erase (box f [] d) takes = refl
  call-erase (box f (r ∷ q) d) takes = refl
  call-erase (box f q idle) (start w) = rw (first-erase (K.due w) (K.receive w))
  call-erase (box f q (busy v p)) (start w) = refl
  call-erase (box f q idle) step = refl
  call-erase (box f q (busy w p)) step = step-erase p f q w

  run-erase : (cs : List (Call K)) (b : Box (tag K)) (n : ℕ) → run K (bare_box K b) cs ≡ map (bare_event K) (run (tag K) b (number K n cs))
  run-erase [] b n = refl
  run-erase (arrives a ∷ cs) b n = rw (call-erase b (arrives (n, a)), run-erase cs (call (tag K) b (arrives (n, a))).1 (suc n))
  run-erase (takes ∷ cs) b n = rw (call-erase b takes, run-erase cs (call (tag K) b takes).1 (suc n))
  run-erase (start w ∷ cs) b n = rw (call-erase b (start w), run-erase cs (call (tag K) b (start w)).1 (suc n))
  run-erase (step ∷ cs) b n = rw (call-erase b step, run-erase cs (call (tag K) b step).1 (suc n))

  end-erase : (cs : List (Call K)) (b : Box (tag K)) (n : ℕ) → end K (bare_box K b) cs ≡ bare_box K (end (tag K) b (number K n cs))
  end-erase [] b n = refl
  end-erase (arrives a ∷ cs) b n = rw (call-erase b (arrives (n, a)), end-erase cs (call (tag K) b (arrives (n, a))).1 (suc n))
  end-erase (takes ∷ cs) b n = rw (call-erase b takes, end-erase cs (call (tag K) b takes).1 (suc n))
  end-erase (start w ∷ cs) b n = rw (call-erase b (start w), end-erase cs (call (tag K) b (start w)).1 (suc n))
  end-erase (step ∷ cs) b n = rw (call-erase b step, end-erase cs (call (tag K) b step).1 (suc n))

  module _ (p : ℕ) where
    abbrev Sum : List (Event (tag K)) → ℕ
    Sum log = sum_e (tag K) (count_at K p) (recorded (tag K) (actions (tag K) log))

    bit-same : (n : ℕ) → p ≡ n → bit (eqb n p) ≡ 1
    bit-same n e = go (eqb n p) refl
      where
        go : (b : Bool) → eqb n p ≡ b → bit b ≡ 1
        go true h = refl
        go false h = let t : T (eqb n p) = rw e (eqb_refl n) in absurd (rw h at t)

    bit-other : (n : ℕ) → p ≢ n → bit (eqb n p) ≡ 0
    bit-other n e = go (eqb n p) refl
      where
        go : (b : Bool) → eqb n p ≡ b → bit b ≡ 0
        go true h = absurd (e (sym (eqb→eq n p (rw h tt))))
        go false h = refl

    made-same : (n : ℕ) (a : K.Frame) (o : Outcome) → p ≡ n → sum_e (tag K) (count_at K p) (made (tag K) (n, a) o) ≡ counted o
    made-same n a not_recorded e = refl
    made-same n a marked e = omega (arith, bit-same n e)
    made-same n a stored e = omega (arith, bit-same n e)

    made_other : (n : ℕ) (a : K.Frame) (o : Outcome) → p ≢ n → sum_e (tag K) (count_at K p) (made (tag K) (n, a) o) ≡ 0
    made_other n a not_recorded e = refl
    made_other n a marked e = omega (arith, bit-other n e)
    made_other n a stored e = omega (arith, bit-other n e)

    Sum-arrive : (n : ℕ) (a : K.Frame) (o : Outcome) (log : List (Event (tag K)))
        → Sum (did (arrived (n, a) o) ∷ log) ≡ sum_e (tag K) (count_at K p) (made (tag K) (n, a) o) + Sum log
    Sum-arrive n a o log = sum_e-append (tag K) (count_at K p) (made (tag K) (n, a) o) (recorded (tag K) (actions (tag K) log))

    Sum-still : (e : Event (tag K)) (log : List (Event (tag K))) → Still (tag K) e → Sum (e ∷ log) ≡ Sum log
    Sum-still e log s = rw (s.none-recorded log)

    before : (cs : List (Call K)) (b : Box (tag K)) (n : ℕ) → p < n → Sum (run (tag K) b (number K n cs)) ≡ 0
    before [] b n h = refl
    before (arrives a ∷ cs) (box f q d) n h =
        let b' = (call (tag K) (box f q d) (arrives (n, a))).1 in
        let o = (enter (tag K) f (n, a)).0 in
        omega (arith, before cs b' (suc n) (omega arith), Sum-arrive n a o (run (tag K) b' (number K (suc n) cs)), made_other n a o (omega arith))
    before (takes ∷ cs) b n h = Sum-still (call (tag K) b takes).0 (run (tag K) (call (tag K) b takes).1 (number K (suc n) cs)) (still-take (tag K) b) ∙ before cs (call (tag K) b takes).1 (suc n) (omega arith)
    before (start w ∷ cs) b n h = Sum-still (call (tag K) b (start w)).0 (run (tag K) (call (tag K) b (start w)).1 (number K (suc n) cs)) (still-start (tag K) w b) ∙ before cs (call (tag K) b (start w)).1 (suc n) (omega arith)
    before (step ∷ cs) b n h = Sum-still (call (tag K) b step).0 (run (tag K) (call (tag K) b step).1 (number K (suc n) cs)) (still-call (tag K) b) ∙ before cs (call (tag K) b step).1 (suc n) (omega arith)

    -- the arrival at position `n + k`, counted from a call at position `n`
    there : (cs : List (Call K)) (b : Box (tag K)) (n k : ℕ) → p ≡ n + k → Sum (run (tag K) b (number K n cs)) ≡ get_or (map (flag (tag K)) (run (tag K) b (number K n cs))) k 0
    there [] b n k e = refl
    there (arrives a ∷ cs) (box f q d) n zero e =
        let b' = (call (tag K) (box f q d) (arrives (n, a))).1 in
        let o = (enter (tag K) f (n, a)).0 in
        omega (arith, before cs b' (suc n) (omega arith), Sum-arrive n a o (run (tag K) b' (number K (suc n) cs)), made-same n a o (omega arith))
    there (arrives a ∷ cs) (box f q d) n (suc k) e =
        let b' = (call (tag K) (box f q d) (arrives (n, a))).1 in
        let o = (enter (tag K) f (n, a)).0 in
        omega (arith, there cs b' (suc n) k (omega arith), Sum-arrive n a o (run (tag K) b' (number K (suc n) cs)), made_other n a o (omega arith))
    there (takes ∷ cs) b n zero e = Sum-still (call (tag K) b takes).0 (run (tag K) (call (tag K) b takes).1 (number K (suc n) cs)) (still-take (tag K) b) ∙ before cs (call (tag K) b takes).1 (suc n) (omega arith) ∙ sym (still-take (tag K) b).no_flag
    there (takes ∷ cs) b n (suc k) e = Sum-still (call (tag K) b takes).0 (run (tag K) (call (tag K) b takes).1 (number K (suc n) cs)) (still-take (tag K) b) ∙ there cs (call (tag K) b takes).1 (suc n) k (omega arith)
    there (start w ∷ cs) b n zero e = Sum-still (call (tag K) b (start w)).0 (run (tag K) (call (tag K) b (start w)).1 (number K (suc n) cs)) (still-start (tag K) w b) ∙ before cs (call (tag K) b (start w)).1 (suc n) (omega arith) ∙ sym (still-start (tag K) w b).no_flag
    there (start w ∷ cs) b n (suc k) e = Sum-still (call (tag K) b (start w)).0 (run (tag K) (call (tag K) b (start w)).1 (number K (suc n) cs)) (still-start (tag K) w b) ∙ there cs (call (tag K) b (start w)).1 (suc n) k (omega arith)
    there (step ∷ cs) b n zero e = Sum-still (call (tag K) b step).0 (run (tag K) (call (tag K) b step).1 (number K (suc n) cs)) (still-call (tag K) b) ∙ before cs (call (tag K) b step).1 (suc n) (omega arith) ∙ sym (still-call (tag K) b).no_flag
    there (step ∷ cs) b n (suc k) e = Sum-still (call (tag K) b step).0 (run (tag K) (call (tag K) b step).1 (number K (suc n) cs)) (still-call (tag K) b) ∙ there cs (call (tag K) b step).1 (suc n) k (omega arith)

  flag-erase : (e : Event (tag K)) → flag K (bare_event K e) ≡ flag (tag K) e
  flag-erase (did (arrived a o)) = refl
  flag-erase (did (took x)) = refl
  flag-erase (did (noticed x)) = refl
  flag-erase (did (moved r x)) = refl
  flag-erase (did nothing) = refl
  flag-erase (started w) = refl
  flag-erase quiet = refl
  flag-erase released = refl
  flag-erase (refused n) = refl

  flags-erase : (log : List (Event (tag K))) → map (flag K) (map (bare_event K) log) ≡ map (flag (tag K)) log
  flags-erase [] = refl
  flags-erase (e ∷ log) = rw (flag-erase e, flags-erase log)

  idle-erase : (d : Drain (tag K)) → bare_drain K d ≡ idle → d ≡ idle
  idle-erase idle h = refl
  idle-erase (busy w p) h = let z : ◌≡◌ {A = ℕ} 0 1 = cc in absurd (omega arith)

  drain_of-erase : (b : Box (tag K)) → drain_of K (bare_box K b) ≡ bare_drain K (drain_of (tag K) b)
  drain_of-erase (box f q d) = refl

  pub placed : (cs : List (Call K)) → drain_of K (end K (fresh K) cs) ≡ idle → Placed K cs (run K (fresh K) cs) (end K (fresh K) cs)
  placed cs h =
      let r = run-erase cs (fresh (tag K)) 0 in
      let e = end-erase cs (fresh (tag K)) 0 in
      let h' = idle-erase (drain_of (tag K) (numbered_end K cs)) (sym (drain_of-erase (numbered_end K cs)) ∙ ap (drain_of K) (sym e) ∙ h) in
      record {
        same-run = r;
        same_end = e;
        whole-numbered = whole-actions (tag K) (number K 0 cs) h';
        one_place = λ p. rw (r, flags-erase) (sym (kept (tag K) (count_at K p) refl (number K 0 cs) h') ∙ there p cs (fresh (tag K)) 0 p (omega arith));
      }
