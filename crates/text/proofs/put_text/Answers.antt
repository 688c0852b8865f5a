-- `text::put_text` meets its contract: where there is room, what is put so far stands laid, and each turn puts one byte more. Assumes nothing.
use Rattle.std.proofs.Common.{◌≡◌, length, ◌∙◌, arith}
use lib.ListN.{length-set}
use lib.Seq.{take-length}
use Rattle.laws.proofs.Laid.{laid_more}
use Rattle.text.proofs.Put.{put-short, put-fits}
use Rattle.text.proofs.put_text.Goals as goal

pub returns-then-at-out : goal.returns-then-at-out
returns-then-at-out c =
    let both = put-short c.args.at c.args.text.now c.args.out.now (omega arith) in record { value = both.0; out_after = both.1 }

pub returns-then-out-at : goal.returns-then-out-at
returns-then-out-at c =
    let both = put-short c.args.at c.args.text.now c.args.out.now (omega arith) in record { value = both.0; out_after = both.1 }

pub loop-i-preserved : goal.loop-i-preserved
loop-i-preserved c =
    (laid_more c.args.at c.loop-i.i c.args.text.now c.args.out.now _ c.loop-i-test.true (omega arith) c.loop-i.invariant.0, simp length-set c.loop-i.invariant.1)

pub returns : goal.returns
returns c =
    let all : c.loop-i.i ≡ length c.args.text.now = omega arith in
    let both = put-fits c.args.at c.args.text.now c.args.out.now _ _ (omega arith) (omega arith) (c.loop-i.invariant.0 ∙ rw (all, take-length)) in
    record { value = both.0; out_after = both.1 }
