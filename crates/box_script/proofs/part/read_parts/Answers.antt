-- `read_parts`: a part that is not read ends the loop, and at the end none is left. Assumes nothing.
use Prim.Native.Nat.{ℕ, ◌+◌, ◌*◌}
use mathlib.Core.Path.{◌≡◌, sym, ap, ◌∙◌}
use mathlib.Core.Bool.{true, false}
use lib.ListN.{length, get_or, length-set}
use lib.Dec.{leb}
use native.Mathlib.Omega.{arith}
use borrow.Author.Rules.{rules}
use borrow.Author.Tests.{leb-true, leb-false}
use Rattle.box_script.specs.State.{firsts_within}
use Rattle.box_script.proofs.Filled.{filled_more}
use Rattle.box_script.proofs.Firsts.{firsts_more, firsts-stop, firsts-end}
use Rattle.box_script.proofs.Read.{judged-good, judged-bad}
use Rattle.box_script.proofs.part.read_parts.Goals as goal

pub returns-in_err-part-clause-value : goal.returns-in_err-part-clause-value
returns-in_err-part-clause-value g c =
    let s = c.args.script.now in
    let i = c.loop-i.i in
    let n = length c.loop-i.parts in
    let bad = judged-bad (leb (get_or s (c.args.at + 14 * i) 0) g.P.Part.limit) _ _ (sym c.read.ensures ∙ c.in_err-part.was) in
    let stop = firsts-stop g.P.Part.limit s n c.args.at i (omega arith) (leb-false (get_or s (c.args.at + 14 * i) 0) g.P.Part.limit bad.0) in
    let none : firsts_within n g.P.Part.limit s c.args.at ≡ false = sym c.loop-i.invariant.left ∙ stop in
    let all : firsts_within (length c.args.parts.now) g.P.Part.limit s c.args.at ≡ false = ap (λ (k : ℕ). firsts_within k g.P.Part.limit s c.args.at) (sym c.loop-i.auto.parts) ∙ none in
    let broken = bad.1 in
    rw all (search rules)

pub loop-i-preserved : goal.loop-i-preserved
loop-i-preserved g c =
    let s = c.args.script.now in
    let i = c.loop-i.i in
    let n = length c.loop-i.parts in
    let good = judged-good (leb (get_or s (c.args.at + 14 * i) 0) g.P.Part.limit) _ _ (sym c.read.ensures ∙ c.in_ok-part.was) in
    let more = firsts_more g.P.Part.limit s n c.args.at i (omega arith) (leb-true (get_or s (c.args.at + 14 * i) 0) g.P.Part.limit good.0) in
    record {
      filled = filled_more c.loop-i.parts (λ (k : ℕ). g.P.Part.part_at s (c.args.at + 14 * k)) i c.in_ok-part.field-0 (omega arith) good.1 c.loop-i.invariant.filled;
      left = rw (length-set c.loop-i.parts i c.in_ok-part.field-0) (sym more ∙ c.loop-i.invariant.left);
    }

pub returns-clause-value : goal.returns-clause-value
returns-clause-value g c =
    let s = c.args.script.now in
    let i = c.loop-i.i in
    let n = length c.loop-i.parts in
    let none = firsts-end g.P.Part.limit s n (c.args.at + 14 * i) i (omega arith) in
    let all : firsts_within (length c.args.parts.now) g.P.Part.limit s c.args.at ≡ true =
    ap (λ (k : ℕ). firsts_within k g.P.Part.limit s c.args.at) (sym c.loop-i.auto.parts) ∙ sym c.loop-i.invariant.left ∙ none in
    rw all
