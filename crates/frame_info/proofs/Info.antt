-- Where the data start and end is within the buffer. Assumes nothing.
use Prim.Native.Nat.{ℕ, ◌+◌, ◌≤◌, min}
use mathlib.Core.Bool.{Bool, true, false, cond}
use mathlib.Core.List.{List}
use native.Mathlib.Omega.{arith}
use Rattle.frame_info.specs.Info.{data_start, extended_of, remote_of, code_of, data_length_of, data_offset_of}

pub start-bound : (format : Bool) → data_start format ≤ 5
start-bound false = omega arith
start-bound true = omega arith

length-bound : (remote : Bool) (code : ℕ) → cond remote 0 (min code 8) ≤ 8
length-bound false code = omega arith
length-bound true code = omega arith

pub data-bound : (b : List ℕ) → data_length_of b ≤ 8
unfolding data_length_of
data-bound b = length-bound (remote_of b) (code_of b)

pub used-bound : (b : List ℕ) → data_offset_of b + data_length_of b ≤ 13
used-bound b = omega (arith, start-bound (extended_of b), data-bound b)
