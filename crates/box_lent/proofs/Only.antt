-- Two answers to a call on a lent box, and two boxes at exit, that both meet its contract are equal: together they are the one result of the call by value.
-- Assumes nothing.
use mathlib.Core.Path.{◌≡◌, ap, sym, ◌∙◌}
use Rattle.box_state.specs.declared.ReceiveBox.{ReceiveBox}
use Rattle.box_state.specs.declared.Arrived.{Arrived}
use Rattle.box_state.specs.declared.Taken.{Taken}
use Rattle.box_state.proofs.Only.{only-arrived, only-taken}
use Rattle.box_drain.specs.declared.Stepped.{Stepped}
use Rattle.box_drain.proofs.Only.{only-stepped, only-started}
use Rattle.box_drain.specs.declared.Started.{Started}
use Rattle.box_drain.specs.Run.{Call, arrives, takes, starts, steps}
use Rattle.box_lent.specs.Calls.{AnswerTo, call_lent}

-- two pairs with one value each
paired : {X Y : Type 0} {a b x : X} {s t y : Y} → (a ≡ x) × (s ≡ y) → (b ≡ x) × (t ≡ y) → ◌≡◌ {A = X × Y} (a, s) (b, t)
paired p q = λ i. ((p.0 ∙ sym q.0) i, (p.1 ∙ sym q.1) i)

pub only-lent : (c : Call) (entry : ReceiveBox) (a b : AnswerTo c) (s t : ReceiveBox) → call_lent c entry a s → call_lent c entry b t → (a ≡ b) × (s ≡ t)
only-lent (arrives frame) entry a b s t p q =
    let same = only-arrived (record { answer = a; state = s }) (record { answer = b; state = t }) (paired p q) in
    (ap (λ (r : Arrived). r.answer) same, ap (λ (r : Arrived). r.state) same)
only-lent takes entry a b s t p q =
    let same = only-taken (record { answer = a; state = s }) (record { answer = b; state = t }) (paired p q) in
    (ap (λ (r : Taken). r.answer) same, ap (λ (r : Taken). r.state) same)
only-lent (starts words) entry a b s t p q =
    let same = only-started (record { answer = a; state = s }) (record { answer = b; state = t }) (paired p q) in
    (ap (λ (r : Started). r.answer) same, ap (λ (r : Started). r.state) same)
only-lent steps entry a b s t p q =
    let same = only-stepped (record { answer = a; state = s }) (record { answer = b; state = t }) (paired p q) in
    (ap (λ (r : Stepped). r.answer) same, ap (λ (r : Stepped). r.state) same)
