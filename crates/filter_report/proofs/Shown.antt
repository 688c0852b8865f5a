-- What a line at fault shows: its printable characters, and the first of them where there are more. Assumes nothing.
use Prim.Native.Nat.{ℕ, suc, ◌+◌, ◌≤◌, ◌<◌}
use mathlib.Core.Path.{◌≡◌, refl, ap, ◌∙◌}
use mathlib.Core.Bool.{Bool, true, false, cond}
use mathlib.Core.List.{List, [], ◌∷◌, ◌++◌}
use lib.Dec.{leb}
use lib.ListN.{length, take, length-append, length-take}
use native.Mathlib.Omega.{arith}
use borrow.Author.Tests.{le-leb, lt-leb, leb-true}
use Rattle.std.specs.List.{prefix_len}
use Rattle.laws.specs.Ascii.{ascii}
use Rattle.filter_report.specs.Line.{unblanked}
use Rattle.filter_report.specs.Faults.{is_printable, printed, shortened, shown_of, fault_said}
use Rattle.filter_report.specs.declared.line.Fault.{Fault}
use Rattle.filter_report.specs.declared.line.Fault.TheVariants.{Above, NotANumber}

printed_is : (line : List ℕ) → take (prefix_len is_printable line) line ≡ printed line
unfolding printed
printed_is [] = refl
printed_is (c ∷ line) = by (is_printable c) (printed_is line)
  where
    n : ℕ
    n = prefix_len is_printable line

    by : (b : Bool) → take n line ≡ printed line → take (cond b (1 + n) 0) (c ∷ line) ≡ cond b (c ∷ printed line) []
    by true e = ap (λ (k : ℕ). take k (c ∷ line)) {x = 1 + n} {y = suc n} (omega arith) ∙ ap (λ (l : List ℕ). c ∷ l) e
    by false e = refl

pub printed_at : (line : List ℕ) (n : ℕ) → n ≡ prefix_len is_printable line → take n line ≡ printed line
printed_at line n e = ap (λ (k : ℕ). take k line) e ∙ printed_is line

pub shown-short : (line : List ℕ) → length (shown_of line) ≤ 34
unfolding shown_of shortened
shown-short line = by (leb (length text) 32) refl
  where
    text : List ℕ
    text = printed (unblanked line)

    by : (b : Bool) → leb (length text) 32 ≡ b → length (cond b text (take 32 text ++ ascii "..")) ≤ 34
    by true e = omega (arith, leb-true (length text) 32 e)
    by false e = omega (arith, length-append (take 32 text) (ascii ".."), length-take 32 text)

module _ (line shown : List ℕ) (same : shown ≡ printed (unblanked line)) where
  pub shown-whole : length shown ≤ 32 → shown ≡ shown_of line
  unfolding shown_of shortened
  shown-whole few = same ∙ rw (le-leb (length (printed (unblanked line))) 32 (omega (arith, ap length same)))

  pub shown-cut : 32 < length shown → take 32 shown ++ ascii ".." ≡ shown_of line
  unfolding shown_of shortened
  shown-cut many = ap (λ (l : List ℕ). take 32 l ++ ascii "..") same ∙ rw (lt-leb (length (printed (unblanked line))) 32 (omega (arith, ap length same)))

pub said-long : (extended hex : Bool) (fault : Fault) → length (fault_said extended hex fault) ≤ 100
said-long true hex Above = omega arith
said-long false hex Above = omega arith
said-long extended true NotANumber = omega arith
said-long extended false NotANumber = omega arith
