-- `filter_report::named::digit_at` meets its contract: a digit is four bits. Assumes nothing.
use Prim.Native.Nat.{ℕ, ◌/◌, ◌%◌}
use mathlib.Core.Path.{ap, ◌∙◌}
use Rattle.filter_report.specs.Hex.{hex_digit}
use Rattle.filter_report.proofs.Ids.{four-bits}
use Rattle.filter_report.proofs.named.digit_at.Goals as goal

pub returns : goal.returns
returns c = c.hex_digit.ensures ∙ ap (λ (w : ℕ). hex_digit (c.args.number / w % 16)) (four-bits c.args.position)
