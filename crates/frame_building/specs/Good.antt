-- What a way of building asks of a frame, by the largest code that a remote frame may have: 0 in the Rust, 8 in ISO 11898-1. No promise cites
-- it: that a way accepts just these frames is proved.
-- Source: the outline, refusals 1 to 3; ISO 11898-1, data length code; request #101.
use Rattle.std.specs.Prelude.{ℕ, ◌≤◌, ◌<◌, ◌≡◌, true, false, length}
use Rattle.identifiers.specs.Limits.{limit_of}
use Rattle.frame_reading.specs.Buffer.{Frame}

pub record Good (most : ℕ) (f : Frame) : Type 0 where
  pub within : f.id ≤ limit_of f.extended
  pub short : length f.payload ≤ 8
  pub coded : f.code ≤ 15
  -- a remote frame has no data, and its code is the length that it asks for
  pub empty : f.remote ≡ true → length f.payload ≡ 0
  pub request : f.remote ≡ true → f.code ≤ most
  -- a data frame's code is its length, or of eight bytes 8 to 15
  pub equal : f.remote ≡ false → length f.payload < 8 → f.code ≡ length f.payload
  pub full : f.remote ≡ false → length f.payload ≡ 8 → 8 ≤ f.code
