-- `abi_answers::deliver` meets its contract: bytes that are given fill the lent slice; a refusal leaves all, and so does a slice of another length. Assumes nothing.
use Prim.Native.Nat.{ℕ}
use mathlib.Core.Path.{sym, ap, ◌∙◌}
use mathlib.Core.List.{List}
use lib.ListN.{length}
use native.Mathlib.Omega.{arith}
use Rattle.laws.specs.Said.{Said}
use Rattle.laws.specs.Laid.{written}
use Rattle.laws.proofs.Copy.{copied-whole}
use Rattle.abi_answers.specs.Answers.{delivery_said}
use Rattle.abi_answers.proofs.Whole.{sized-no, delivered}
use Rattle.abi_answers.proofs.deliver.Goals as goal

pub returns-then-out-bytes : goal.returns-then-out-bytes
unfolding written
returns-then-out-bytes c =
    record {
      value = rw (sized-no _ _ _ _ c.if-out-bytes.true) c.wrong_length.ensures;
      out_after = rw (sized-no _ _ _ _ c.if-out-bytes.true);
    }

pub returns-in-Ok : goal.returns-in-Ok
unfolding written
returns-in-Ok c =
    let room = c.if-out-bytes.false in
    let bytes = c.args.bytes.now in
    let out = c.args.out.now in
    let same = ap {B = Said ℕ × List ℕ} (λ (s : Said ℕ). (s, bytes)) (sym (ap delivery_said c.in-Ok.is)) in
    let both = delivered (length bytes) c.args.argument out _ (delivery_said c.args.delivery, bytes) room same in
    record {
      value = c.given.ensures ∙ both.0;
      out_after = c.copy_from_slice.ensures.after ∙ (sym (copied-whole bytes out (omega (arith, room))) ∙ both.1);
    }

pub returns-in-Err : goal.returns-in-Err
unfolding written
returns-in-Err c =
    let bytes = c.args.bytes.now in
    let same = ap {B = Said ℕ × List ℕ} (λ (s : Said ℕ). (s, bytes)) (sym (ap delivery_said c.in-Err.is)) in
    let both = delivered (length bytes) c.args.argument c.args.out.now _ (delivery_said c.args.delivery, bytes) c.if-out-bytes.false same in
    record {
      value = c.refused.ensures ∙ both.0;
      out_after = both.1;
    }
