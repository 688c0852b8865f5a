-- Worked cases of a remote frame without data: code 8 stands in byte 0, code 9 is refused, data are refused before the code, and the Rust's way still
-- refuses code 1. Each is computed. Assumes nothing.
use Prim.Native.Nat.{ℕ}
use mathlib.Core.Path.{◌≡◌, refl}
use mathlib.Core.Bool.{true, false}
use mathlib.Core.List.{List, [], ◌∷◌}
use lib.ListN.{replicate}
use Rattle.laws.specs.Said.{refuses, gives}
use Rattle.frame_reading.specs.Buffer.{Frame}
use Rattle.frame_building.specs.Buffer.{buffer_of}
use Rattle.frame_building.specs.Building.{judge_of, judge_by, build_of, build_by, build_in}
use Rattle.frame_building.specs.declared.Way.TheVariants.{Rust, Iso}

-- standard, 0x123
abbrev remote : ℕ → List ℕ → Frame
remote code payload =
    record { extended = false; remote = true; own = false; code = code; id = 0x123; payload = payload }

pub code-eight : build_in Iso (remote 8 []) ≡ (gives 13, 0x48 ∷ 0x24 ∷ 0x60 ∷ replicate 10 0)
unfolding buffer_of judge_by build_by
code-eight = refl

pub code-nine : build_in Iso (remote 9 []) ≡ (refuses 3 (9 ∷ []), replicate 13 0)
unfolding judge_by build_by
code-nine = refl

pub data-first : build_in Iso (remote 9 (0xAB ∷ [])) ≡ (refuses 2 (1 ∷ []), replicate 13 0)
unfolding judge_by build_by
data-first = refl

pub old-code-one : build_in Rust (remote 1 []) ≡ (refuses 3 (1 ∷ []), replicate 13 0)
unfolding judge_of build_of
old-code-one = refl
