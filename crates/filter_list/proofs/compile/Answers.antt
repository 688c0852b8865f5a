-- `filter_list::compile` meets its contract: the compiler of the format, on patterns that are `x` but for the identifier's. Assumes nothing.
use Prim.Native.Nat.{ℕ}
use mathlib.Core.Path.{ap, ◌∙◌}
use mathlib.Core.List.{List}
use Rattle.std.proofs.Common.{Result}
use Rattle.laws.specs.Said.{Said}
use Rattle.refusals.specs.declared.Refusal.{Refusal}
use Rattle.filter_registers.specs.Answers.{compiled_said}
use Rattle.filter_list.specs.Answers.{registers_for}
use Rattle.filter_list.proofs.Answers.{bytes_or_zeros}
use Rattle.filter_list.proofs.compile.Goals.{then-extended, else-extended}
use Rattle.filter_list.proofs.compile.Goals as goal

pub returns : goal.returns
unfolding registers_for
returns c =
    let zeros = c.unwrap_or.ensures ∙ bytes_or_zeros 8 c.if-extended.compiled in
    let beside = λ (r : Result (List ℕ) Refusal). (compiled_said r).1 in
    let second = λ (p : Said ℕ × List ℕ). p.1 in
    elim c.if-extended.branch [
      | then-extended w ↦ rw w.if-extended.true (zeros ∙ ap beside w.compiled-is ∙ ap second w.new-compiled.ensures)
      | else-extended w ↦ rw w.if-extended.false (zeros ∙ ap beside w.compiled-is ∙ ap second w.new-compiled-else-extended.ensures)
    ]
