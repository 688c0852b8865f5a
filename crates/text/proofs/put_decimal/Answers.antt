-- `text::put_decimal` meets its contract: where there is room for the most digits, or for those that are counted, they are put. Assumes nothing.
use native.Mathlib.Omega.{arith}
use Rattle.text.specs.Decimal.{decimal}
use Rattle.text.proofs.Decimal.{decimal-most}
use Rattle.text.proofs.Put.{put-short, put-fits}
use Rattle.text.proofs.put_decimal.Goals as goal

pub returns-then-at-out : goal.returns-then-at-out
returns-then-at-out c =
    let both = put-short c.args.at (decimal c.args.n) c.args.out.now (omega arith) in record { value = both.0; out_after = both.1 }

pub put_digits-requires : goal.put_digits-requires
put_digits-requires c = omega (arith, decimal-most c.args.n (omega arith))

pub returns-then-room-ge-MOST_DIGITS : goal.returns-then-room-ge-MOST_DIGITS
returns-then-room-ge-MOST_DIGITS c =
    let both = put-fits c.args.at (decimal c.args.n) c.args.out.now _ _ (omega (arith, decimal-most c.args.n (omega arith))) c.put_digits.ensures.0 c.put_digits.ensures.1 in record { value = both.0; out_after = both.1 }

pub returns-then-room-digits : goal.returns-then-room-digits
returns-then-room-digits c =
    let both = put-short c.args.at (decimal c.args.n) c.args.out.now (omega (arith, c.digits.ensures.0)) in record { value = both.0; out_after = both.1 }

pub returns : goal.returns
returns c =
    let both = put-fits c.args.at (decimal c.args.n) c.args.out.now _ _ (omega (arith, c.digits.ensures.0)) c.put_digits-2.ensures.0 c.put_digits-2.ensures.1 in record { value = both.0; out_after = both.1 }
