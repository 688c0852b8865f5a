-- What stands at a position's place is what the arrival at that position made.
-- Source: the outline, "The box": copy if whole, or Overrun for a mark; a notice offers BusOff.
use Rattle.std.specs.Prelude.{ℕ, zero, suc, ◌≡◌, List, [], ◌∷◌}
use Rattle.std.proofs.Math.Option.{Option, none, some}
use Rattle.box_model.specs.Lists.{Kit}
use Rattle.box_model.specs.Calls.{Call, arrives, lists}
use Rattle.box_model.specs.Places.{removed, lost, tag, numbered_dids, numbered_end}

abbrev pub All : {A : Type 0} → (A → Type 0) → List A → Type 0
All P [] = Unit {0}
All P (x ∷ xs) = P x × All P xs

module _ (K : Kit) where
  abbrev pub call_at : List (Call K) → ℕ → Option (Call K)
  call_at [] n = none
  call_at (c ∷ cs) zero = some c
  call_at (c ∷ cs) (suc n) = call_at cs n

  -- a record with no position is BusOff; one with a position is the copy of what the frame that arrived there left, whole or a mark
  pub data Made (cs : List (Call K)) : Option ℕ × K.Record → Type 0 where
    of-notice : Made cs (none, K.bus_off)
    of-whole : {p : ℕ} {a : K.Frame} → call_at cs p ≡ some (arrives a) → Made cs (some p, K.copy (K.whole a))
    of-mark : {p : ℕ} {a : K.Frame} → call_at cs p ≡ some (arrives a) → Made cs (some p, K.copy (K.mark a))

  pub record Content (cs : List (Call K)) : Type 0 where
    pub in_taken : All (Made cs) (removed (tag K) (numbered_dids K cs))
    pub in-lost : All (Made cs) (lost (tag K) (numbered_dids K cs))
    pub in-queue : All (Made cs) (lists (tag K) (numbered_end K cs)).1
    pub in-fifo : All (λ (e : ℕ × K.Entry). Made cs ((tag K).copy e)) (lists (tag K) (numbered_end K cs)).0
