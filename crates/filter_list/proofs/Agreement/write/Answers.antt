-- `filter_list::Agreement::write` meets its contract: what is written so far stands in front, and each turn writes one character more. Assumes nothing.
use Prim.Native.Nat.{ℕ}
use mathlib.Core.Path.{◌≡◌, sym, ap, ◌∙◌}
use mathlib.Core.List.{List, ◌++◌}
use lib.ListN.{length, take, drop, set}
use lib.Seq.{take-length}
use native.Mathlib.Omega.{arith}
use Rattle.laws.proofs.Copy.{copied_more}
use Rattle.filter_list.specs.Pattern.{character_by, down_from}
use Rattle.filter_list.proofs.Pattern.{down-length, down-at}
use Rattle.filter_list.proofs.Agreement.write.Goals as goal

pub loop-i-preserved : goal.loop-i-preserved
loop-i-preserved c =
    let i = c.loop-i.i in
    let f = character_by c.args.self.agreed c.args.self.differing in
    let long : length (down_from c.args.width f) ≡ c.args.width = down-length c.args.width f in
    let here = down-at c.args.width f i (omega arith) in
    ap (λ (l : List ℕ). set l i c.character.result) c.loop-i.invariant
    ∙ ap (set (take i (down_from c.args.width f) ++ drop i c.args.pattern.now) i) (c.character.ensures ∙ sym here)
    ∙ copied_more (down_from c.args.width f) c.args.pattern.now i (omega (arith, long)) (omega (arith, c.requires.1))

pub returns : goal.returns
returns c =
    let f = character_by c.args.self.agreed c.args.self.differing in
    let all : c.loop-i.i ≡ length (down_from c.args.width f) = omega (arith, down-length c.args.width f) in
    c.loop-i.invariant ∙ rw (all, take-length)
