-- `filter_matcher::shown::bytes_in` meets its contract: a remote frame has no data, and a code above 8 is above two. Assumes nothing.
use Prim.Native.Nat.{ℕ, min}
use mathlib.Core.Path.{sym, ap, ◌∙◌}
use Rattle.filter_matcher.proofs.Rows.{remote-none, code-bytes}
use Rattle.filter_matcher.proofs.shown.bytes_in.Goals as goal

pub returns-then-is_remote_request : goal.returns-then-is_remote_request
returns-then-is_remote_request c =
    let frame = c.args.frame.now in
    ap (λ (n : ℕ). min n 2) (sym (remote-none frame (sym c.is_remote_request.ensures ∙ c.if-is_remote_request.true)))

pub returns : goal.returns
returns c =
    let frame = c.args.frame.now in
    ap (λ (n : ℕ). min n 2) c.data_length_code.ensures ∙ code-bytes frame (sym c.is_remote_request.ensures ∙ c.if-is_remote_request.false)
