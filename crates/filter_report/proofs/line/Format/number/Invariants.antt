use Rattle.std.proofs.Common.{◌≡◌, ◌<◌, ◌≤◌, length, get_or}
use Rattle.identifiers.specs.Limits.{limit_of}
use Rattle.filter_report.specs.Line.{digit_of, base_of, number_from}
use Rattle.filter_report.proofs.line.Format.number.Given as goal

abbrev pub invariant-loop-character : goal.invariant-loop-character
invariant-loop-character l =
    (number_from (limit_of l.self.extended) l.self.hex l.sixteen l.n l.rest ≡ number_from (limit_of l.self.extended) l.self.hex l.sixteen 0 l.word)
    × (length l.rest ≤ length l.word)
    × (length l.rest ≡ length l.word → l.rest ≡ l.word)
    × (length l.rest < length l.word → digit_of (get_or l.word 0 0) < base_of l.sixteen)

abbrev pub decreases-loop-character : goal.decreases-loop-character
decreases-loop-character l = length l.rest
