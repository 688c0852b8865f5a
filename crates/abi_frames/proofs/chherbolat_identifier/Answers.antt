-- `abi_frames::chherbolat_identifier` meets its contract: the identifier's number is that of the frame where it stands. Assumes nothing.
use Prim.Native.Nat.{ℕ}
use mathlib.Core.Path.{ap}
use mathlib.Core.Bool.{Bool}
use Rattle.frame_reading.specs.Reading.{identifier_of}
use Rattle.abi_answers.proofs.Whole.{sized-yes}
use Rattle.abi_frames.proofs.chherbolat_identifier.Goals as goal

pub returns-in-Ok : goal.returns-in-Ok
unfolding identifier_of
returns-in-Ok c =
    let number = ap (λ (i : Bool × ℕ). i.1) c.identifier.ensures.0 in
    rw (sized-yes _ _ _ _ c.in-Ok.ensures.cases.1, ← c.in-Ok.ensures.cases.0, ← number) c.identifier_answer.ensures
