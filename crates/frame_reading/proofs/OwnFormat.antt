-- The identifier that is read is that of the frame's own format. Assumes nothing.
use Prim.Native.Nat.{ℕ}
use mathlib.Core.Path.{◌≡◌, ap, sym, ◌∙◌}
use mathlib.Core.Bool.{Bool}
use mathlib.Core.List.{List}
use Rattle.frame_info.specs.Info.{extended_of}
use Rattle.frame_reading.specs.Buffer.{id_in}
use Rattle.frame_reading.specs.Reading.{identifier_of}

-- the number in the row of a format, where the format is the frame's own
pub own-identifier : (b : List ℕ) (format : Bool) (raw : ℕ) → extended_of b ≡ format → raw ≡ id_in format b → (format, raw) ≡ identifier_of b
unfolding identifier_of
own-identifier b format raw own same = ap (λ (x : ℕ). (format, x)) same ∙ ap (λ (f : Bool). (f, id_in f b)) (sym own)
