-- `filter_report::lines::read_list` meets its contract: what is found stands in the front of the list, or is found in the lines that are left. Assumes nothing.
use Rattle.std.proofs.Common.{arith, rules, of_calls, refl, ◌<◌, ℕ, ◌∙◌, sym, ap, length, length-set}
use Rattle.std.specs.Prelude.{Ok, Some}
use Rattle.std.proofs.lemmas.Iterator.Splits.{YieldsList-from_slice_split}
use borrow.Author.Tests.{tests}
use lib.Dec.{eqb}
use Rattle.identifiers.specs.Limits.{limit_of}
use Rattle.filter_report.proofs.Split.{read_start, read_nothing, read_room, read_identifier, read_fault, read_few, line_taken, lines_over, count_fits}
use Rattle.filter_report.proofs.lines.read_list.Goals as goal

pub loop-line-init : goal.loop-line-init
loop-line-init c =
    let args = c.args in
    (search of_calls, tt, (_, YieldsList-from_slice_split _ (λ b. eqb b 10) args.text.now (search rules) (search rules) (search rules) (λ x b q k. search (rules, tests)), read_start (limit_of args.format.extended) args.format.hex args.text.now args.list.now), refl)

pub overflow_add-number : goal.overflow_add-number
overflow_add-number c =
    let left = line_taken {t = c.next.new.self} c.in-Some.line c.loop-line.invariant.2 c.in-Some.ensures.steps in
    omega (arith, read_few left.2, c.requires.1)

pub bounds-list-count : goal.bounds-list-count
bounds-list-count c =
    let left = line_taken {t = c.next.new.self} c.in-Some.line c.loop-line.invariant.2 c.in-Some.ensures.steps in
    let read = sym (c.in-Ok-Some.is ∙ ap Ok c.in-Ok-Some.field-0-is) ∙ c.read_line.ensures in
    omega (arith, read_room left.2 c.in-Ok-Some.id read, c.loop-line.invariant.3, c.requires.0)

pub loop-line-preserved-in-Ok-Some : goal.loop-line-preserved-in-Ok-Some
loop-line-preserved-in-Ok-Some c =
    let left = line_taken {t = c.next.new.self} c.in-Some.line c.loop-line.invariant.2 c.in-Some.ensures.steps in
    let read = sym (c.in-Ok-Some.is ∙ ap Ok c.in-Ok-Some.field-0-is) ∙ c.read_line.ensures in
    let room : c.loop-line.count < length c.loop-line.list = omega (arith, read_room left.2 c.in-Ok-Some.id read, c.loop-line.invariant.3, c.requires.0) in
    (search rules, tt, (left.0, left.1, read_identifier left.2 _ (ap (λ (n : ℕ). Ok (Some n)) c.in-Ok-Some.id-is ∙ read) room), length-set c.loop-line.list c.loop-line.count _ ∙ c.loop-line.invariant.3)

pub loop-line-preserved : goal.loop-line-preserved
loop-line-preserved c =
    let left = line_taken {t = c.next.new.self} c.in-Some.line c.loop-line.invariant.2 c.in-Some.ensures.steps in
    let read = sym (c.in-Ok-None.is ∙ ap Ok c.in-Ok-None.field-0-is) ∙ c.read_line.ensures in
    (search rules, tt, (left.0, left.1, read_nothing left.2 read), c.loop-line.invariant.3)

pub invariant_of-result : goal.invariant_of-result
invariant_of-result c =
    let left = line_taken {t = c.next.new.self} c.in-Some.line c.loop-line.invariant.2 c.in-Some.ensures.steps in
    record { few = omega (arith, read_few left.2, c.requires.1) }

pub returns-in-Err : goal.returns-in-Err
returns-in-Err c =
    let left = line_taken {t = c.next.new.self} c.in-Some.line c.loop-line.invariant.2 c.in-Some.ensures.steps in
    (read_fault left.2 _ (sym c.in-Err.is ∙ c.read_line.ensures), tt)

pub returns : goal.returns
returns c = (lines_over c.loop-line.invariant.2 c.in-None.ensures.steps, count_fits c.loop-line.invariant.2.2 (omega (arith, c.requires.0, c.loop-line.invariant.3)))
