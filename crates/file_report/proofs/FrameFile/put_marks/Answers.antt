-- `file_report::FrameFile::put_marks` meets its contract: at each turn one mark more is laid, and it is known whether some filter so far accepts. Assumes nothing.
use Rattle.std.proofs.Common.{◌∙◌, sym, ap, length, arith}
use borrow.Author.Tests.{eqb-true, eqb-false}
use lib.ListN.{length-set}
use Rattle.laws.specs.Laid.{laid}
use Rattle.file_report.specs.Text.{marks, any}
use Rattle.file_report.specs.Held.{agrees}
use Rattle.file_report.proofs.Held.{held-many, row-many, row-is}
use Rattle.file_report.proofs.Marks.{none-laid, any-none, mark-turn, any-turn, first-all, marks-of-none, marks-of-some}
use Rattle.file_report.proofs.Text.{width-none, width_some}
use Rattle.file_report.proofs.FrameFile.put_marks.Goals as goal

pub bounds-out-at-then-is_empty : goal.bounds-out-at-then-is_empty
bounds-out-at-then-is_empty c =
    let file = c.args.self.now in
    let none = eqb-true (length file.filters.now) 0 (sym c.is_empty.ensures ∙ c.if-is_empty.true) in
    let wide = width-none file.sections.filters (sym (held-many file.bytes.now file.sections file.filters.now file.are_held) ∙ none) in
    simp length-set (omega (arith, wide))

pub returns-then-is_empty : goal.returns-then-is_empty
returns-then-is_empty c =
    let file = c.args.self.now in
    let none = eqb-true (length file.filters.now) 0 (sym c.is_empty.ensures ∙ c.if-is_empty.true) in
    let few = sym (held-many file.bytes.now file.sections file.filters.now file.are_held) ∙ none in
    let wide = width-none file.sections.filters few in
    let many = row-many file.bytes.now file.sections c.args.index in
    (any-none _ (many ∙ few), marks-of-none _ file.sections.filters c.args.at c.args.out.now many few (omega (arith, wide)))

pub loop-i-init : goal.loop-i-init
loop-i-init c = none-laid c.args.at c.args.out.now

pub bounds-out-at-in-loop-i : goal.bounds-out-at-in-loop-i
bounds-out-at-in-loop-i c =
    let file = c.args.self.now in
    let many = held-many file.bytes.now file.sections file.filters.now file.are_held in
    let wide = width_some file.sections.filters (λ e. absurd (omega arith)) in
    omega (arith, wide, c.loop-i.auto.out)

pub loop-i-preserved : goal.loop-i-preserved
loop-i-preserved c =
    let file = c.args.self.now in
    let many = held-many file.bytes.now file.sections file.filters.now file.are_held in
    let wide = width_some file.sections.filters (λ e. absurd (omega arith)) in
    let is = c.accepts-accepted.ensures in
    let test = agrees c.shown-shown.result in (
      mark-turn test file.filters.now c.loop-i.i _ _ is c.loop-i-test.true c.args.at _ _ c.args.out.now c.mark.ensures c.loop-i.invariant.0
          (omega (arith, wide)),
      any-turn test file.filters.now c.loop-i.i _ _ is c.loop-i-test.true _ c.loop-i.invariant.1,
    )

pub bounds-out-at-2 : goal.bounds-out-at-2
bounds-out-at-2 c =
    let file = c.args.self.now in
    let many = held-many file.bytes.now file.sections file.filters.now file.are_held in
    let some = eqb-false (length file.filters.now) 0 (sym c.is_empty.ensures ∙ c.if-is_empty.false) in
    let wide = width_some file.sections.filters (λ e. some (many ∙ e)) in
    omega (arith, wide, many, c.loop-i.auto.out)

pub returns : goal.returns
returns c =
    let file = c.args.self.now in
    let many = held-many file.bytes.now file.sections file.filters.now file.are_held in
    let some = eqb-false (length file.filters.now) 0 (sym c.is_empty.ensures ∙ c.if-is_empty.false) in
    let wide = width_some file.sections.filters (λ e. some (many ∙ e)) in
    let row = row-is file.bytes.now file.sections file.are_bytes file.is_read file.filters.now file.are_held c.args.index c.shown-shown.result c.shown-shown.ensures in
    let all = first-all (agrees c.shown-shown.result) file.filters.now c.loop-i.i (omega arith) ∙ row in (
      c.loop-i.invariant.1 ∙ ap any all,
      marks-of-some _ file.sections.filters c.args.at c.args.out.now (row-many file.bytes.now file.sections c.args.index) (λ e. some (many ∙ e)) _ _ many
          (omega (arith, wide)) (c.loop-i.invariant.0 ∙ ap (λ r. laid c.args.at (marks r) c.args.out.now) all),
    )
