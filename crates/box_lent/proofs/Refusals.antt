-- A call on a lent box that answers a refusal leaves the box as it was, by the box's own law; this holds of every box, also of one that breaks the rules.
-- Assumes nothing.
use Prim.Native.Nat.{ℕ}
use mathlib.Core.Path.{◌≡◌, ap, sym, ◌∙◌}
use mathlib.Core.Option.{some}
use Rattle.box_state.specs.declared.ReceiveBox.{ReceiveBox}
use Rattle.box_drain.specs.Run.{Call, arrives, takes, starts, steps, refused_with, refusal_of, after}
use Rattle.box_drain.proofs.Refusals.{refusal-changes-nothing}
use Rattle.box_lent.specs.Calls.{AnswerTo, call_lent, refused_in}

-- what is answered and what is stored are those of the call by value
answered : (c : Call) (entry : ReceiveBox) (answer : AnswerTo c) (exit : ReceiveBox) → call_lent c entry answer exit → (refused_in c answer ≡ refusal_of entry c) × (exit ≡ after entry c)
answered (arrives frame) entry answer exit p = (ap (λ x. refused_with x) p.0, p.1)
answered takes entry answer exit p = (ap (λ x. refused_with x.0) p.0, p.1)
answered (starts words) entry answer exit p = (ap (λ x. refused_with x) p.0, p.1)
answered steps entry answer exit p = (ap (λ x. refused_with x.0) p.0, p.1)

pub refusal-leaves-the-box : (c : Call) (entry : ReceiveBox) (answer : AnswerTo c) (exit : ReceiveBox) (n : ℕ) → call_lent c entry answer exit → refused_in c answer ≡ some n → exit ≡ entry
refusal-leaves-the-box c entry answer exit n p refused =
    let out = answered c entry answer exit p in
    out.1 ∙ refusal-changes-nothing entry c n (sym out.0 ∙ refused)
