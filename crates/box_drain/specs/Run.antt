-- Calls on the box, one after the other: the box after them, the number that a call is refused with, and the number that is due.
-- Source: the outline, "The box" and "Refusals by number".
use Rattle.std.specs.Prelude.{ℕ, Bool, cond, List, [], ◌∷◌}
use Rattle.std.proofs.Math.Option.{Option, none, some}
use Rattle.laws.specs.Said.{Said, refuses, gives}
use Rattle.box_words.specs.declared.Words.{Words}
use Rattle.box_state.specs.declared.ReceiveBox.{ReceiveBox}
use Rattle.box_state.specs.Rules.{is_idle, box_ok}
use Rattle.box_state.specs.Calls.{arrive_of, take_of}
use Rattle.box_drain.specs.Step.{step_of}
use Rattle.box_drain.specs.Start.{start_of}

pub data Call : Type 0 where
  arrives : List ℕ → Call
  takes : Call
  starts : Words → Call
  steps : Call

abbrev pub refused_with : {A : Type 0} → Said A → Option ℕ
refused_with (gives a) = none
refused_with (refuses number carried) = some number

-- the number that a call is refused with
abbrev pub refusal_of : ReceiveBox → Call → Option ℕ
refusal_of g (arrives frame) = refused_with (arrive_of g frame).0
refusal_of g takes = refused_with (take_of g).0.0
refusal_of g (starts w) = refused_with (start_of g w).0
refusal_of g steps = refused_with (step_of g).0.0

abbrev pub after : ReceiveBox → Call → ReceiveBox
after g (arrives frame) = (arrive_of g frame).1
after g takes = (take_of g).1
after g (starts w) = (start_of g w).1
after g steps = (step_of g).1

abbrev pub after_all : ReceiveBox → List Call → ReceiveBox
after_all g [] = g
after_all g (c ∷ cs) = after_all (after g c) cs

-- a start while a drain runs, and a step while none runs
abbrev pub untimely : Call → Bool → Option ℕ
untimely (arrives frame) idle = none
untimely takes idle = none
untimely (starts w) idle = cond idle none (some 8)
untimely steps idle = cond idle (some 9) none

-- the number that is due: 10 comes first
unfoldable pub refusal_due : ReceiveBox → Call → Option ℕ
refusal_due g c = cond (box_ok g) (untimely c (is_idle g.phase)) (some 10)
