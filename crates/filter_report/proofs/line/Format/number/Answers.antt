-- `filter_report::line::Format::number` meets its contract: each digit makes the number so far greater, and the first other character must end the line. Assumes nothing.
use Rattle.std.proofs.Common.{rules, arith, ◌∙◌, ap, ap₂, ◌≡◌, ◌<◌, ◌≤◌, ℕ, ◌+◌, ◌*◌, ◌-◌, ◌^◌, Bool, true, false, get_or}
use Prim.Native.Nat.{min}
use Rattle.identifiers.specs.Limits.{limit_of}
use Rattle.filter_report.specs.Line.{digit_of, base_of, closes}
use Rattle.filter_report.proofs.Scan.{stop_end, stop_other, digit_turn, number_empty, number_open, number_above, number_within}
use Rattle.filter_report.proofs.line.Format.number.Goals as goal
use Rattle.filter_report.proofs.line.Format.number.Goals.{in-Some+in_default-to_digit, in_default, then-rest-word-via-then-rest-word, then-rest-word-via-else-rest-word+then-not-closes}

limit_below : (extended : Bool) → limit_of extended < 2 ^ 32 - 1
limit_below true = omega arith
limit_below false = omega arith

pub loop-character-preserved : goal.loop-character-preserved
loop-character-preserved c =
    let digit = c.in-Some-to_digit.ensures.value in
    let n = c.loop-character.n in
    digit_turn _ _ _ n _ c.in-Some.character.now c.from.result c.loop-character.rest.now _ _ (limit_below c.args.self.extended) c.in-Some.ensures.cases (omega (arith, digit.0, c.base-base.ensures)) c.from.ensures
    (c.saturating_add-n.ensures ∙ ap₂ (λ (p d : ℕ). min (p + d) (2 ^ 32 - 1)) (c.saturating_mul.ensures ∙ ap (λ (b : ℕ). min (n * b) (2 ^ 32 - 1)) c.base-base.ensures) digit.1)
    c.loop-character.invariant

pub returns-then-rest-word : goal.returns-then-rest-word
returns-then-rest-word c =
    let inv = c.loop-character.invariant in
    let stop : base_of c.args.sixteen ≤ digit_of (get_or c.loop-character.rest.now 0 0) = elim c.match-split_first.branch [
      | in-Some+in_default-to_digit w ↦ stop_other c.args.sixteen c.loop-character.rest.now _ _ _ _ w.in-Some.ensures.cases w.from.ensures c.base-base.ensures w.in_default-to_digit.ensures.value
      | in_default w ↦ stop_end c.args.sixteen c.loop-character.rest.now w.in_default.ensures.cases
    ] in
    elim c.then-rest-word.branch [
      | then-rest-word-via-then-rest-word w ↦ number_empty _ _ _ c.loop-character.n c.loop-character.rest.now _ inv.0 inv.3 inv.2 inv.1 stop w.if-rest-word.true
      | then-rest-word-via-else-rest-word+then-not-closes w ↦
          let others : closes c.args.self.hex c.loop-character.rest.now ≡ false = search rules in
          number_open _ _ _ c.loop-character.n c.loop-character.rest.now _ inv.0 inv.3 inv.2 inv.1 stop w.if-rest-word.false others
    ]

pub returns-then-n-limit : goal.returns-then-n-limit
returns-then-n-limit c =
    let inv = c.loop-character.invariant in
    let stop : base_of c.args.sixteen ≤ digit_of (get_or c.loop-character.rest.now 0 0) = elim c.match-split_first.branch [
      | in-Some+in_default-to_digit w ↦ stop_other c.args.sixteen c.loop-character.rest.now _ _ _ _ w.in-Some.ensures.cases w.from.ensures c.base-base.ensures w.in_default-to_digit.ensures.value
      | in_default w ↦ stop_end c.args.sixteen c.loop-character.rest.now w.in_default.ensures.cases
    ] in
    let closed : closes c.args.self.hex c.loop-character.rest.now ≡ true = search rules in
    number_above _ _ _ c.loop-character.n c.loop-character.rest.now _ inv.0 inv.3 inv.2 inv.1 stop c.if-rest-word.false closed (omega (arith, c.limit.ensures, c.if-n-limit.true))

pub returns : goal.returns
returns c =
    let inv = c.loop-character.invariant in
    let stop : base_of c.args.sixteen ≤ digit_of (get_or c.loop-character.rest.now 0 0) = elim c.match-split_first.branch [
      | in-Some+in_default-to_digit w ↦ stop_other c.args.sixteen c.loop-character.rest.now _ _ _ _ w.in-Some.ensures.cases w.from.ensures c.base-base.ensures w.in_default-to_digit.ensures.value
      | in_default w ↦ stop_end c.args.sixteen c.loop-character.rest.now w.in_default.ensures.cases
    ] in
    let closed : closes c.args.self.hex c.loop-character.rest.now ≡ true = search rules in
    number_within _ _ _ c.loop-character.n c.loop-character.rest.now _ inv.0 inv.3 inv.2 inv.1 stop c.if-rest-word.false closed (omega (arith, c.limit.ensures, c.if-n-limit.false))
