-- `filter_compilers::compile` meets its contract: all are pattern characters and both words are the row's, or the first that is none is named. Assumes nothing.
use mathlib.Core.Path.{sym, ap₂, ◌∙◌}
use mathlib.Core.List.{map}
use Rattle.std.proofs.lemmas.Result.{err_from_is_err_and}
use Rattle.filter_registers.specs.Registers.{registers_of}
use Rattle.filter_compilers.proofs.Joined.{said-good}
use Rattle.filter_compilers.proofs.Answers.{answered-refused, answered-made}
use Rattle.filter_compilers.proofs.compile.Goals as goal

pub read-code-requires : goal.read-code-requires
read-code-requires c = c.requires.2 ∙ said-good 0 (map (λ p. p.now) c.args.patterns.now) (sym c.in_ok-judge_characters.ensures)

pub returns-in_err-judge_characters : goal.returns-in_err-judge_characters
returns-in_err-judge_characters c =
    let p = err_from_is_err_and c.from_residual.result c.from_residual.ensures.1 in
    rw (p.1, p.2) (answered-refused _ _ _ _ (sym c.in_err-judge_characters.ensures))

pub returns : goal.returns
returns c =
    answered-made _ _ _ (sym c.in_ok-judge_characters.ensures)
    (c.made.ensures ∙ ap₂ registers_of c.read-code.ensures.0 c.read-code.ensures.1)
