-- `filter_list::from_list` meets its contract: its tests are those of the definition, in its order, and what is written and compiled is the list's pattern.
-- Assumes nothing.
use Prim.Native.Nat.{ℕ}
use mathlib.Core.Path.{refl, sym, ap, ◌∙◌}
use mathlib.Core.List.{List}
use native.Mathlib.Omega.{arith}
use Rattle.laws.specs.Said.{gives}
use Rattle.filter_list.specs.Pattern.{character_by, character_at}
use Rattle.filter_list.proofs.Folds.{above-there, above-none}
use Rattle.filter_list.proofs.Answers.{empty, above, short, made}
use Rattle.filter_list.proofs.from_list.Goals as goal

pub returns-in_default : goal.returns-in_default
returns-in_default c =
    let start = c.args in
    let due = empty start.extended start.list.now start.pattern.now (omega (arith, c.in_default.ensures.cases)) in
    record { result_value = due.0; pattern_after = due.1 }

pub returns-in-Some-above : goal.returns-in-Some-above
returns-in-Some-above c =
    let start = c.args in
    let there = above-there _ start.list.now _ (sym c.in-Some-above.ensures) in
    let due = above start.extended start.list.now start.pattern.now (λ e. omega (arith, c.in-Some.ensures.cases.1)) _ _ c.limit.ensures (sym there.0) there.1 in
    record { result_value = due.0; pattern_after = due.1 }

pub returns-then-pattern-needed : goal.returns-then-pattern-needed
returns-then-pattern-needed c =
    let start = c.args in
    let all = above-none _ start.list.now (sym c.in_default-above.ensures) in
    let due = short start.extended start.list.now start.pattern.now (λ e. omega (arith, c.in-Some.ensures.cases.1)) _ _ c.limit.ensures refl all _ c.width-needed.ensures.0 c.if-pattern-needed.true in
    record { result_value = due.0; pattern_after = due.1 }

pub returns : goal.returns
returns c =
    let start = c.args in
    let f = character_by c.of.result.agreed c.of.result.differing in
    let all = above-none _ start.list.now (sym c.in_default-above.ensures) in
    let due = made start.extended start.list.now start.pattern.now (λ e. omega (arith, c.in-Some.ensures.cases.1)) _ _ c.limit.ensures refl all _ c.width-needed.ensures.0 f (λ k. c.of.ensures k ∙ ap (λ (l : List ℕ). character_at l k) (sym c.in-Some.ensures.cases.0)) _ c.write.ensures _ c.if-pattern-needed.false c.compile-registers.ensures in
    record { result_value = ap (λ (n : ℕ). (gives n, c.compile-registers.result)) c.through.ensures ∙ due.0; pattern_after = due.1 }
