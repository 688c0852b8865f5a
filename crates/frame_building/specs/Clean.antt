-- The buffers that a way of building can make: nothing stands where no field does, and a remote frame's code is at most the way's largest: 0 in the
-- Rust, 8 in ISO 11898-1.
-- Source: the outline, "Frame buffer": all else is zero; the Rust refuses a remote frame with a code; request #101.
use Rattle.std.specs.Prelude.{ℕ, ◌+◌, ◌-◌, ◌≤◌, ◌≡◌, true, List, get_or, drop, replicate}
use Rattle.frame_info.specs.Info.{info_of, extended_of, remote_of, code_of, data_offset_of, data_length_of}
use Rattle.frame_reading.specs.Buffer.{id_fields}

pub record Clean (most : ℕ) (b : List ℕ) : Type 0 where
  pub reserved-bit : get_or (info_of b) 2 0 ≡ 0
  pub spare-bits : get_or (id_fields (extended_of b) b) 1 0 ≡ 0
  pub after-data : drop (data_offset_of b + data_length_of b) b ≡ replicate (13 - (data_offset_of b + data_length_of b)) 0
  pub remote-code : remote_of b ≡ true → code_of b ≤ most
