-- `filter_compilers::marks` meets its contract: what is masked is at most the mask. Assumes nothing.
use Prim.Native.Nat.{◌/◌}
use mathlib.Core.Path.{refl}
use lib.Bits.{bit_and, or_lt, and_le_r}
use native.Mathlib.Omega.{arith}
use Rattle.filter_compilers.proofs.marks.Goals as goal

pub returns : goal.returns
returns c =
    let word = c.args.word in (
      refl,
      or_lt 61 (bit_and word 0x0101_0101_0101_0101) (bit_and (word / 4) 0x1010_1010_1010_1010)
          (omega (arith, and_le_r word 0x0101_0101_0101_0101)) (omega (arith, and_le_r (word / 4) 0x1010_1010_1010_1010)),
    )
