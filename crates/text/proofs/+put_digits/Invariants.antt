-- `text::put_digits` meets its contract: the digits of the hundredth, and the last two behind them. Assumes nothing.
use Rattle.text.proofs.+put_digits.Given as goal

abbrev pub decreases-put_digits : goal.decreases-put_digits
decreases-put_digits l = l.n
