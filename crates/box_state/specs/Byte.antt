-- The next step as a byte: 0 none, 1 notice, 2 look, 3 miss read, 4 copy, 5 release, 6 offer, 7 finish; any byte above is no step.
-- Source: docs/ABI.md, "The box's script".
use Rattle.std.specs.Prelude.{ℕ, cond, eqb, leb, Result, Ok, Err}
use Rattle.refusals.specs.declared.Refusal.{Refusal}
use Rattle.refusals.specs.declared.Refusal.TheVariants.{BrokenState}
use Rattle.box_state.specs.declared.Phase.{Phase}
use Rattle.box_state.specs.declared.Phase.TheVariants as phase

abbrev pub phase_byte : Phase → ℕ
phase_byte phase.Idle = 0
phase_byte phase.Notice = 1
phase_byte phase.Look = 2
phase_byte phase.Miss = 3
phase_byte phase.Copy = 4
phase_byte phase.Release = 5
phase_byte phase.Offer = 6
phase_byte phase.Finish = 7

-- the largest byte that is a step
abbrev pub phase_limit : ℕ
phase_limit = 7

-- total, though no byte above the limit is read
unfoldable pub phase_of : ℕ → Phase
phase_of byte =
    cond (eqb byte 0) phase.Idle
    (cond (eqb byte 1) phase.Notice
    (cond (eqb byte 2) phase.Look
    (cond (eqb byte 3) phase.Miss
    (cond (eqb byte 4) phase.Copy
    (cond (eqb byte 5) phase.Release
    (cond (eqb byte 6) phase.Offer phase.Finish))))))

abbrev pub phase_read : ℕ → Result Phase Refusal
phase_read byte = cond (leb byte phase_limit) (Ok (phase_of byte)) (Err BrokenState)
