-- The text goes by the first 53,396 bytes, which are all that the program reads: a longer file is refused. Assumes nothing.
use Prim.Native.Nat.{ℕ, ◌<◌}
use mathlib.Core.Path.{◌≡◌, refl, ap, ◌∙◌}
use mathlib.Core.List.{List}
use lib.ListN.{length, take}
use lib.Seq.{take_all}
use native.Mathlib.Omega.{arith}
use native.Mathlib.Decide.{dec_lt}
use Rattle.laws.specs.Said.{Said, refuses, gives}
use Rattle.file_reading.specs.declared.Sections.{Sections}
use Rattle.file_reading.specs.Reader.{read_of}
use Rattle.file_reading.proofs.Format.{read-good}
use Rattle.file_reading.proofs.Cap.{read-cap}
use Rattle.file_report.specs.Text.{read_text, text_of}

refused-same : (s t : List ℕ) (said : Said Sections) → read_of s ≡ said → 53396 < length s → read_text t said ≡ read_text s said
refused-same s t (gives sections) e h =
    let file = read-good s sections e in
    absurd (omega (arith, file.0.whole, file.0.filters-within, file.0.frames-within))
refused-same s t (refuses number place) e h = refl

pub text-cap : (s : List ℕ) → text_of (take 53396 s) ≡ text_of s
unfolding text_of
text-cap s =
    elim (dec_lt 53396 (length s)) [
      | yes h ↦ ap (read_text (take 53396 s)) (read-cap s) ∙ refused-same s (take 53396 s) (read_of s) refl h
      | no h ↦ ap text_of (take_all 53396 s (omega arith))
    ]
