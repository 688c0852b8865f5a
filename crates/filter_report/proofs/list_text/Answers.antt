-- `filter_report::list_text` meets its contract: a list within its limit is answered by its filter, and refused only where it is empty. Assumes nothing.
use Rattle.std.proofs.Common.{refl, ◌∙◌, ap, ap₂, List, ℕ, take, replicate}
use Rattle.identifiers.specs.Limits.{width_of}
use Rattle.filter_list.specs.Pattern.{pattern_of}
use Rattle.filter_report.specs.Text.{lines_text}
use Rattle.filter_report.proofs.Listed.{through-made, registers-made, pattern-made, listed-none, listed-some, list-filter}
use Rattle.filter_report.proofs.list_text.Goals as goal

pub lines_text-requires : goal.lines_text-requires
lines_text-requires c =
    let extended = c.args.extended in
    let list = c.args.list.now in
    let within = c.requires.1 in
    let listed = c.in-Ok.listed in
    let said = c.in-Ok.ensures.result_value in
    let some = listed-some extended list listed said in (
      c.requires.0,
      within,
      ap (λ (n : ℕ). take n c.from_list.new.pattern) c.width.ensures.0 ∙ pattern-made extended list some within (replicate 29 0) c.from_list.new.pattern refl c.in-Ok.ensures.pattern_after,
      through-made extended list some within listed said,
    )

pub returns-in-Ok : goal.returns-in-Ok
returns-in-Ok c =
    let extended = c.args.extended in
    let list = c.args.list.now in
    let within = c.requires.1 in
    let listed = c.in-Ok.listed in
    let said = c.in-Ok.ensures.result_value in
    let some = listed-some extended list listed said in
    let front = ap (λ (n : ℕ). take n c.from_list.new.pattern) c.width.ensures.0 ∙ pattern-made extended list some within (replicate 29 0) c.from_list.new.pattern refl c.in-Ok.ensures.pattern_after in
    c.lines_text.ensures
    ∙ ap (λ (t : List ℕ). lines_text extended list t listed.registers listed.through) front
    ∙ ap₂ (λ (r : List ℕ) (n : ℕ). lines_text extended list (pattern_of (width_of extended) list) r n) (registers-made extended list some within listed said) (through-made extended list some within listed said)
    ∙ list-filter extended list some

pub returns-in-Err : goal.returns-in-Err
returns-in-Err c = c.plain_text.ensures ∙ listed-none c.args.extended c.args.list.now c.in-Err.field-0 c.requires.1 c.in-Err.ensures.result_value
