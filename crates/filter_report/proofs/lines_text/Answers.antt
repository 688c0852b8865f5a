-- `filter_report::lines_text` meets its contract: what was listed, the registers and what else gets through, each behind the last. Assumes nothing.
use Rattle.std.proofs.Common.{arith, rules, ◌≡◌, ◌+◌, ◌∙◌, sym, ap, List, ℕ, ◌++◌, length}
use Rattle.filter_report.specs.Listed.{listed_text}
use Rattle.filter_report.specs.Through.{members_of, different, not_listed, through_text}
use Rattle.filter_report.specs.Text.{registers_text, lines_text}
use Rattle.filter_report.proofs.Page.{behind, long, registers-long}
use Rattle.filter_report.proofs.Ids.{listed-long}
use Rattle.filter_report.proofs.Listed.{width_small, pattern-long}
use Rattle.filter_report.proofs.Passing.{through-members, through-small, through-others}
use Rattle.filter_report.proofs.lines_text.Goals as goal

pub put_registers-requires : goal.put_registers-requires
put_registers-requires c =
    let extended = c.args.extended in
    let list = c.args.list.now in
    let long8 : length c.args.listed.registers ≡ 8 = search rules in
    let narrow = ap length c.requires.2 ∙ pattern-long extended list in (
      omega (arith, narrow, width_small extended),
      omega (arith, long8),
      omega (arith, ap length c.new-page.ensures, listed-long extended list c.requires.0, long c.new-page.result (listed_text extended list) c.put_listed.new.page c.put_listed.ensures),
    )

pub invariant_of-put_through : goal.invariant_of-put_through
invariant_of-put_through c =
    let extended = c.args.extended in
    let list = c.args.list.now in
    record {
      narrow = omega (arith, ap length c.requires.2, pattern-long extended list, width_small extended);
      counted = c.requires.3 ∙ through-members extended list ∙ ap (λ (p : List ℕ). length (members_of p)) (sym c.requires.2);
    }

pub put_through-requires : goal.put_through-requires
put_through-requires c =
    let extended = c.args.extended in
    let list = c.args.list.now in
    let pattern = c.args.pattern.now in
    let registers = c.args.listed.registers in
    let long8 : length c.args.listed.registers ≡ 8 = search rules in
    let narrow = ap length c.requires.2 ∙ pattern-long extended list in
    let listed = long c.new-page.result (listed_text extended list) c.put_listed.new.page c.put_listed.ensures in
    let two = long c.put_listed.new.page (registers_text pattern registers) c.put_registers.new.page c.put_registers.ensures in
    let short = registers-long pattern registers (omega (arith, narrow, width_small extended)) (omega (arith, long8)) in (
      c.requires.3 ∙ through-others extended list c.requires.1 ∙ ap (λ (p : List ℕ). different list + length (not_listed p list)) (sym c.requires.2),
      omega (arith, c.requires.3, through-small extended list),
      omega (arith, ap length c.new-page.ensures, listed-long extended list c.requires.0, listed, two, short),
    )

pub returns : goal.returns
unfolding lines_text
returns c =
    let extended = c.args.extended in
    let list = c.args.list.now in
    let pattern = c.args.pattern.now in
    let registers = registers_text pattern c.args.listed.registers in
    let through = through_text extended pattern list c.args.listed.through in
    c.put_through.ensures
    ∙ behind c.put_listed.new.page registers c.put_registers.new.page through c.put_registers.ensures
    ∙ behind c.new-page.result (listed_text extended list) c.put_listed.new.page (registers ++ through) c.put_listed.ensures
    ∙ ap (λ (l : List ℕ). l ++ (listed_text extended list ++ (registers ++ through))) c.new-page.ensures
