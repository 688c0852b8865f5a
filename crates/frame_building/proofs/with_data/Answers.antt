-- `frame_building::with_data` meets its contract: what is copied so far stands laid, and each turn lays one byte more. Assumes nothing.
use Prim.Native.Nat.{◌≤◌, ◌+◌}
use mathlib.Core.Path.{◌≡◌}
use lib.ListN.{length}
use native.Mathlib.Omega.{arith}
use borrow.Author.Rules.{rules}
use Rattle.laws.proofs.Laid.{laid_more}
use Rattle.frame_building.proofs.with_data.Goals as goal

pub loop-i-preserved : goal.loop-i-preserved
loop-i-preserved c =
    let long : length c.args.frame ≡ 13 = search rules in
    let room : c.args.start + length c.args.data.now ≤ length c.args.frame = omega (arith, c.requires) in
    laid_more c.args.start c.loop-i.i c.args.data.now c.args.frame _ c.loop-i-test.true room c.loop-i.invariant
