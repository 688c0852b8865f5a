-- What the reader finds fits its four fields, since a file has at most 16 filters and 4,096 frames; so the number tells all four. Assumes nothing.
use Prim.Native.Nat.{ℕ, ◌<◌}
use mathlib.Core.Path.{◌≡◌}
use mathlib.Core.List.{List}
use native.Mathlib.Omega.{arith}
use Rattle.laws.specs.Row.{unpack, none, field}
use Rattle.laws.specs.Said.{gives}
use Rattle.laws.proofs.Row.{unpack-pack}
use Rattle.file_reading.specs.declared.Sections.{Sections}
use Rattle.file_reading.specs.Reader.{read_of}
use Rattle.file_reading.proofs.Format.{read-good}
use Rattle.abi_files.specs.Numbers.{found_row, found_fields, found_number}

pub found-fits : (s : List ℕ) (sections : Sections) → read_of s ≡ gives sections
    → (sections.filters < 65536) × (sections.frames < 65536) × (sections.filters_start < 65536) × (sections.frames_start < 65536)
found-fits s sections e =
    let good = read-good s sections e in
    let few = good.0.filters-within in
    (omega (arith, few), omega (arith, good.0.frames-within), omega (arith, good.1), omega (arith, few, good.2))

pub found-told : (s : List ℕ) (sections : Sections) → read_of s ≡ gives sections → unpack found_row (found_number sections) ≡ found_fields sections
found-told s sections e =
    let fit = found-fits s sections e in
    unpack-pack
    (field 16 sections.frames_start fit.3
    (field 16 sections.filters_start fit.2 (field 16 sections.frames fit.1 (field 16 sections.filters fit.0 none))))
