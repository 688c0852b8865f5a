-- The outline's whole case, by computation: the file is read, also spoilt, and written again from its entries. Assumes nothing.
use Prim.Native.Nat.{ℕ}
use mathlib.Core.Path.{◌≡◌, refl}
use mathlib.Core.List.{List, [], ◌∷◌, ◌++◌}
use lib.ListN.{replicate, take, set}
use Rattle.laws.specs.Laid.{written}
use Rattle.file_reading.specs.Reader.{frames_from, frames_at, filters_from, read_of}
use Rattle.file_writing.specs.Writer.{first_bad_kind, write_of, leaves}
use Rattle.abi_answers.specs.Answers.{answer_of}
use Rattle.abi_files.specs.Numbers.{found_said}

abbrev filters : List ℕ
filters = 0 ∷ 0 ∷ 0 ∷ 0 ∷ 0 ∷ 0xFF ∷ 0xDF ∷ 0xFF ∷ 0xFF ∷ []

abbrev frames : List ℕ
frames = 0x01 ∷ 0x24 ∷ 0x80 ∷ 0xAB ∷ (replicate 9 0 ++ (0x00 ∷ 0xFF ∷ 0xE0 ∷ replicate 10 0))

abbrev file : List ℕ
file = 1 ∷ (filters ++ (0 ∷ 2 ∷ frames))

-- one filter from 1 on, two frames from 12 on
pub read-worked : answer_of (found_said (read_of file)) ≡ record { number = 0; value = 0x000C000100020001 }
unfolding frames_from frames_at filters_from read_of
read-worked = refl

-- without its last byte the second frame is not whole
pub cut-worked : answer_of (found_said (read_of (take 37 file))) ≡ record { number = 11; value = 25 }
unfolding frames_from frames_at filters_from read_of
cut-worked = refl

-- with a filter of kind 2
pub kind-worked : answer_of (found_said (read_of (set file 1 2))) ≡ record { number = 7; value = 1 }
unfolding frames_from frames_at filters_from read_of
kind-worked = refl

-- an output of 37 bytes is one too short
pub write-worked : (answer_of (write_of filters frames 39) ≡ record { number = 0; value = 38 }) × (answer_of (write_of filters frames 37) ≡ record { number = 6; value = 38 })
unfolding first_bad_kind write_of
write-worked = (refl, refl)

-- what stands past the file stays
pub left-worked : leaves filters frames (replicate 38 0xA5 ++ (0x5A ∷ [])) ≡ file ++ (0x5A ∷ [])
unfolding first_bad_kind write_of written
left-worked = refl
