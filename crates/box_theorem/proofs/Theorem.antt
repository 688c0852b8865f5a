-- Sequences of calls from a fresh box: they run as the model's do, so they come to whole actions, and every recorded arrival ends in one place.
-- Assumes nothing.
use mathlib.Core.Path.{◌≡◌, refl, sym, ap, ◌∙◌}
use mathlib.Core.List.{List, [], ◌∷◌}
use Rattle.box_queue.specs.Ring.{queue_limit}
use Rattle.box_queue.specs.View.{view}
use Rattle.box_fifo.specs.Ring.{entries_of}
use Rattle.box_state.specs.declared.Phase as P
use Rattle.box_state.specs.declared.Phase.TheVariants as phase
use Rattle.box_state.specs.declared.ReceiveBox.{ReceiveBox}
use Rattle.box_state.specs.Calls.{fresh_box}
use Rattle.box_state.proofs.Rules.{Good}
use Rattle.box_drain.specs.Run as R
use Rattle.box_drain.proofs.Kept.{good-kept, fresh-good}
use Rattle.box_model.specs.Calls as Calls
use Rattle.box_model.specs.Calls.{Call, arrives, takes, start, step, Box, idle, drain_of, lists, call, run, end}
use Rattle.box_model.specs.Demand.{Whole}
use Rattle.box_model.specs.Places.{Placed}
use Rattle.box_model.specs.Content.{Content}
use Rattle.box_model.proofs.Demand as D
use Rattle.box_model.proofs.Places.{placed}
use Rattle.box_model.proofs.Content.{content}
use Rattle.box_theorem.specs.Kit.{can, drain_in, box_of}
use Rattle.box_theorem.specs.Run.{call_of, run_of, end_of}
use Rattle.box_theorem.proofs.Calls.{Refines, arrive-refines, take-refines, start-refines}
use Rattle.box_theorem.proofs.Steps.{step-refines}

-- ONE CALL on a box that keeps the rules: they hold on, the event is the model's, and so is the box after it
good-call : (g : ReceiveBox) (c : Call can) → Good g → Good (call_of g c).1
good-call g (arrives a) k = good-kept g (R.arrives a) k
good-call g takes k = good-kept g R.takes k
good-call g (start w) k = good-kept g (R.starts w) k
good-call g step k = good-kept g R.steps k

pub refines : (g : ReceiveBox) (c : Call can) → Good g → Refines (call_of g c) (call can (box_of g) c)
refines g (arrives a) k = arrive-refines g a k
refines g takes k = take-refines g k
refines g (start w) k = start-refines g w k
refines g step k = step-refines g k

-- A SEQUENCE
pub good-from : (cs : List (Call can)) (g : ReceiveBox) → Good g → Good (end_of g cs)
good-from [] g k = k
good-from (c ∷ cs) g k = good-from cs (call_of g c).1 (good-call g c k)

pub run_is : (cs : List (Call can)) (g : ReceiveBox) → Good g → run_of g cs ≡ run can (box_of g) cs
run_is [] g k = refl
run_is (c ∷ cs) g k =
    let r = refines g c k in
    let e = r.event in
    let s = run_is cs (call_of g c).1 (good-call g c k) ∙ ap (λ (b : Box can). run can b cs) r.state in
    cc

pub end_is : (cs : List (Call can)) (g : ReceiveBox) → Good g → box_of (end_of g cs) ≡ end can (box_of g) cs
end_is [] g k = refl
end_is (c ∷ cs) g k =
    let r = refines g c k in
    end_is cs (call_of g c).1 (good-call g c k) ∙ ap (λ (b : Box can). end can b cs) r.state

-- FROM A FRESH BOX
fresh-is : box_of fresh_box ≡ Calls.fresh can
fresh-is = refl

fresh-run : (cs : List (Call can)) → run_of fresh_box cs ≡ run can (Calls.fresh can) cs
fresh-run cs = run_is cs fresh_box fresh-good ∙ ap (λ (b : Box can). run can b cs) fresh-is

pub fresh-end : (cs : List (Call can)) → box_of (end_of fresh_box cs) ≡ end can (Calls.fresh can) cs
fresh-end cs = end_is cs fresh_box fresh-good ∙ ap (λ (b : Box can). end can b cs) fresh-is

ended : (cs : List (Call can)) → (end_of fresh_box cs).phase ≡ phase.Idle → drain_of can (end can (Calls.fresh can) cs) ≡ idle
ended cs h =
    let g = end_of fresh_box cs in
    ap (drain_of can) (sym (fresh-end cs)) ∙ ap (λ (p : P.Phase). drain_in p g.words g.held) h

-- DEMAND 3: whole actions that lead to the FIFO and the queue of the box; per class in the order and with the answers and lost records of the calls;
-- what each drain owes; the order of the run as the FIFO and as the queue see it
pub whole-actions : (cs : List (Call can)) → (end_of fresh_box cs).phase ≡ phase.Idle → Whole can (run_of fresh_box cs) (entries_of (end_of fresh_box cs).fifo, view queue_limit (end_of fresh_box cs).queue)
whole-actions cs h =
    let w = D.whole-actions can cs (ended cs h) in
    let e = ap (lists can) (fresh-end cs) in
    rw (fresh-run cs, e) w

-- every recorded arrival ends in exactly one place
pub one_place : (cs : List (Call can)) → (end_of fresh_box cs).phase ≡ phase.Idle → Placed can cs (run_of fresh_box cs) (box_of (end_of fresh_box cs))
one_place cs h =
    let w = placed can cs (ended cs h) in
    rw (fresh-run cs, fresh-end cs) w

-- and there it is what that arrival made
pub place-content : (cs : List (Call can)) → Content can cs
place-content cs = content can cs
