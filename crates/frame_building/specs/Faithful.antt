-- What a way of building keeps to: what it gives for a frame reads back as that frame, has nothing where no field is, and each such buffer is made again.
-- No promise cites it: it is proved of both ways.
-- Source: the outline, demand 2; request #101: it reads against the Rust for the old way, and against ISO 11898-1 for the new one.
use Rattle.std.specs.Prelude.{ℕ, ◌≡◌, List, length}
use Rattle.laws.specs.Said.{Said, gives}
use Rattle.laws.specs.Tabulate.{Bytes}
use Rattle.frame_reading.specs.Buffer.{Frame, frame_of}
use Rattle.frame_building.specs.Clean.{Clean}

-- by the largest code of a remote frame
pub record Faithful (build : Frame → Said ℕ × List ℕ) (most : ℕ) : Type 0 where
  pub back : (f : Frame) → (build f).0 ≡ gives 13 → frame_of (build f).1 ≡ f
  pub clean : (f : Frame) → (build f).0 ≡ gives 13 → Clean most (build f).1
  pub again : (b : List ℕ) → length b ≡ 13 → Bytes b → Clean most b → build (frame_of b) ≡ (gives 13, b)
