-- `filter_compilers::eight` meets its contract: each byte at its place. Assumes nothing.
use Prim.Native.Nat.{◌+◌, ◌≤◌}
use mathlib.Core.Path.{ap, ◌∙◌}
use lib.ListN.{length}
use native.Mathlib.Omega.{arith}
use Rattle.std.specs.Int.{w64, from_be_bytes}
use Rattle.octets.proofs.Part.{part-within}
use Rattle.filter_compilers.proofs.Turned.{eight-word}
use Rattle.filter_compilers.proofs.eight.Goals as goal

pub returns : goal.returns
returns c =
    let room : c.args.at + 8 ≤ length c.args.row.now = omega (arith, c.requires, c.told-row) in
    c.from_be_bytes.ensures
    ∙ ap (from_be_bytes w64) (c.array_at.ensures ∙ part-within 8 c.args.at c.args.row.now room)
    ∙ eight-word c.args.row.now c.args.at room c.fits-row
