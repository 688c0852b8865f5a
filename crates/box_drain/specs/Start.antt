-- A start of a drain.
-- Source: the outline, "The box", and refusals 8 and 10.
use Prim.{Unit, tt}
use Rattle.std.specs.Prelude.{cond, [], Result}
use Rattle.laws.specs.Said.{Said, refuses, gives}
use Rattle.refusals.specs.declared.Refusal.{Refusal}
use Rattle.refusals.specs.Table.{answer_said}
use Rattle.box_words.specs.declared.Words.{Words}
use Rattle.box_state.specs.declared.ReceiveBox.{ReceiveBox}
use Rattle.box_state.specs.Rules.{is_idle, box_ok}
use Rattle.box_drain.specs.Step.{first_phase}
use Rattle.box_drain.specs.declared.Started.{Started}

-- a start stores its words
abbrev pub begun : ReceiveBox → Words → ReceiveBox
begun g w = record { fifo = g.fifo; queue = g.queue; phase = first_phase w; held = g.held; words = w }

unfoldable pub start_of : ReceiveBox → Words → Said (Unit {0}) × ReceiveBox
start_of g w = cond (box_ok g) (cond (is_idle g.phase) (gives tt, begun g w) (refuses 8 [], g)) (refuses 10 [], g)

abbrev pub starting_said : Result (Unit {0}) Refusal → Said (Unit {0})
starting_said = answer_said (λ t. t)

abbrev pub started_said : Started → Said (Unit {0}) × ReceiveBox
started_said r = (starting_said r.answer, r.state)
