-- `text::digits` meets its contract: a number has one digit more than its tenth, which is what the recursion goes down by. Assumes nothing.
use Rattle.text.proofs.+digits.Given as goal

abbrev pub decreases-digits : goal.decreases-digits
decreases-digits l = l.n
