-- What an offer and a take are on the list of the records: a stored record is last, a taken one was first, and all else stands as it did.
-- Assumes nothing.
use Prim.Native.Nat.{ℕ, suc, ◌+◌, ◌-◌, ◌<◌, ◌%◌}
use mathlib.Core.Path.{◌≡◌, ap, ◌∙◌}
use mathlib.Core.List.{[], ◌∷◌, ◌++◌}
use lib.ListN.{length, get_or}
use lib.Seq.{get_or-set_same, get_or-set_other}
use native.Mathlib.Numerals.{add-one}
use native.Mathlib.Omega.{arith}
use Rattle.laws.proofs.Tabulate.{tabulate-ext, tabulate-snoc, tabulate-cons}
use Rattle.box_records.specs.declared.Record.{Record}
use Rattle.box_queue.specs.declared.Queue.{Queue}
use Rattle.box_queue.specs.Ring.{queue_limit, nowhere, pushed, popped, oldest}
use Rattle.box_queue.specs.View.{record_at, view}

-- a place of the ring that is not the one behind the last is another
apart : (h n i : ℕ) → n < queue_limit → i < n → (h + i) % queue_limit ≡ (h + n) % queue_limit → ⊥
apart h n i l k e = omega arith

pub pushed-view : (q : Queue) (x : Record) → length q.places ≡ queue_limit → q.count < queue_limit
    → view queue_limit (pushed queue_limit q x) ≡ view queue_limit q ++ (x ∷ [])
pushed-view q x s l =
    rw (add-one q.count, tabulate-snoc q.count (record_at queue_limit (pushed queue_limit q x)))
    (let at = (q.head + q.count) % queue_limit in
    let old = tabulate-ext q.count (record_at queue_limit (pushed queue_limit q x)) (record_at queue_limit q)
    (λ i k. get_or-set_other q.places at ((q.head + i) % queue_limit) x nowhere (apart q.head q.count i l k)) in
    let new = get_or-set_same q.places at x nowhere (omega arith) in
    cc)

pub popped-view : (q : Queue) → q.head < queue_limit → 0 < q.count
    → view queue_limit q ≡ oldest q ∷ view queue_limit (popped queue_limit q)
popped-view q h l =
    let front : record_at queue_limit q 0 ≡ oldest q = ap (λ (k : ℕ). get_or q.places k nowhere) (omega arith) in
    let rest = tabulate-ext (q.count - 1) (λ i. record_at queue_limit q (suc i)) (record_at queue_limit (popped queue_limit q))
    (λ i k. ap (λ (j : ℕ). get_or q.places j nowhere) (omega arith)) in
    tabulate-cons q.count (record_at queue_limit q) l ∙ (cc)
